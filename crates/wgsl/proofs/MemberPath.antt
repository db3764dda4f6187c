-- Where the members of a struct lie (specs/Size), along a path (specs/Path): the step to member i leads to the i-th offset.
-- Assumes nothing.
use Prim.Native.Nat.{ℕ, zero, suc, ◌+◌, ◌^◌, ◌<◌}
use mathlib.Core.List.{List, [], ◌∷◌}
use mathlib.Core.Option.{Option, some}
use mathlib.Core.Path.{◌≡◌, refl, ap, ◌∙◌}
use native.Mathlib.Omega.{arith}
use native.Mathlib.Nat.{add_comm, zero-add}
use lib.ListN.{length, get_elem?}
use Rattle.wgsl.specs.Types.{Ty, struct, Members, no_more, member}
use Rattle.wgsl.specs.Size.{present, align_of, size_of, member_end, offsets_of}
use Rattle.wgsl.specs.Said.{good, ◌>>=◌}
use Rattle.wgsl.specs.Rule.{count_of}
use Rattle.wgsl.specs.Place.{extent_of, elements_in, shape_of, fields_of}
use Rattle.wgsl.specs.Path as path
use Rattle.wgsl.specs.Path.{enter, walk, step_of}
use Rattle.wgsl.specs.Call.{target_in, target_call, view_call}
use Rattle.wgsl.specs.Claim.{types_in, member_step, LaidOut, HasRoom}
use Rattle.wgsl.proofs.Absent.{some_not_none}
use Rattle.wgsl.proofs.Said.{then_is, refuse_no}
use Rattle.wgsl.proofs.Passed.{struct_passed}
use Rattle.wgsl.proofs.Path.{target}
use Rattle.wgsl.proofs.Step.{number_of, step_code, step_of_code}
use Rattle.wgsl.proofs.EntryFor.{laid_is, entry_well_formed}
use Rattle.wgsl.proofs.IsShort.{room_short}

-- one step into the members, where the one before the first ended at `end`
enter_member : (k n z : ℕ) (end : Option ℕ) (ms : Members) (i : ℕ) (start : Option ℕ) (t : Ty) → get_elem? (offsets_of end ms) i ≡ some start → get_elem? (types_in ms) i ≡ some t → enter k (fields_of n z end ms) (path.member i) ≡ good (target (present start) (shape_of n t))
unfolding offsets_of types_in fields_of enter
enter_member k n z end no_more i start t o u = some_not_none o refl
enter_member k n z end (member v size align ms) zero start t o u = cc
enter_member k n z end (member v size align ms) (suc i) start t o u =
    enter_member k n z (member_end end align (align_of v) size (size_of v)) ms i start t o u

-- a member that is there has a number below the count
types_below_lem : (ms : Members) (i : ℕ) (t : Ty) → get_elem? (types_in ms) i ≡ some t → i < count_of ms
unfolding types_in count_of
types_below_lem no_more i t e = some_not_none e refl
types_below_lem (member v size align ms) zero t e = omega arith
types_below_lem (member v size align ms) (suc i) t e = omega (arith, types_below_lem ms i t e)

-- The step to member i of a struct leads to the i-th of its offsets, and to the member's own type.
pub member_path : {f : List ℕ} {e : ℕ} {b : List ℕ} {k : ℕ} {ms : Members} → LaidOut f e b (struct k ms) → HasRoom (struct k ms) b → (i o : ℕ) (t : Ty) → get_elem? (offsets_of (some 0) ms) i ≡ some (some o) → get_elem? (types_in ms) i ≡ some t → view_call f e (member_step i ∷ []) b ≡ good (target o (shape_of (elements_in (length b) (struct k ms)) t))
unfolding view_call target_call target_in walk ◌>>=◌ shape_of present member_step number_of step_code
member_path {f} {e} {b} {k} {ms} laid room i o t at is =
    let s : Ty = struct k ms in
    let n = elements_in (length b) s in
    let well = entry_well_formed f e s laid.entry in
    let few : i < 2 ^ 31 = omega (arith, types_below_lem ms i t is, (struct_passed k ms well).few) in
    let step : step_of (2 ^ 31 + i) ≡ path.member i =
    ap step_of (add_comm (2 ^ 31) i) ∙ step_of_code (path.member i) few in
    then_is _ (laid_is laid)
    ∙ refuse_no 15 0 (room_short s b well room)
    ∙ rw (step, enter_member 0 n (extent_of n s) (some 0) ms i (some o) t at is, zero-add o)
