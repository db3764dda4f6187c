-- When the calls with a buffer are good (specs/Claim): exactly if none of the conditions of their refusals holds.
--
-- In order: read; write; view; set.
-- Assumes nothing.
use Prim.Native.Nat.{ℕ, ◌≤◌}
use mathlib.Core.Bool.{false, not}
use mathlib.Core.List.{List, map}
use mathlib.Core.Option.{some, some-injective}
use mathlib.Core.Path.{◌≡◌, refl, ap, ◌∙◌}
use borrow.Author.Tests.{ltb-false, le-ltb, eq-eqb, eqb-true, not-false}
use lib.ListN.{length}
use Rattle.wgsl.specs.Types.{Scalar}
use Rattle.wgsl.specs.Said.{or_refuse}
use Rattle.wgsl.specs.Place.{extent_of, elements_in, Shape, one, parts, field, whole, shape_of, word_places, places, word_count}
use Rattle.wgsl.specs.Path.{Target, Step, step_of}
use Rattle.wgsl.specs.Call.{elements_for, read_elements, read_type, read_call, write_words, write_elements, write_type, write_call, target_in, target_call, view_call, scalar_at, set_scalar, set_target, set_call}
use Rattle.wgsl.specs.Claim.{Fit, Leads, GoodIf, CanWrite, CanRead, CanView, CanSet}
use Rattle.wgsl.proofs.Absent.{some_not_none}
use Rattle.wgsl.proofs.Said.{next_good, next_is, then_good, then_is, refuse_good, refuse_no, or_refuse_good}
use Rattle.wgsl.proofs.Path.{target, walk_leads, leads_walk}
use Rattle.wgsl.proofs.Word.{check_words_fit, fit_check_words}
use Rattle.wgsl.proofs.EntryFor.{laid_good, laid_is, stored_good, stored_is, entry_well_formed}
use Rattle.wgsl.proofs.IsShort.{short_room, room_short}
use Rattle.wgsl.proofs.ElementsFor.{right_count, counted}
use Rattle.wgsl.proofs.Call.{read_is}

-- ---- read

-- A read is good exactly if the entry is stored, the buffer has room and the words are enough.
pub read_good_if : (f : List ℕ) (e : ℕ) (b ws : List ℕ) → GoodIf (read_call f e b ws) (CanRead f e b ws)
unfolding read_call read_type read_elements
read_good_if f e b ws =
    record {
      if_so = λ c.
          let t = c.type in
          let well = entry_well_formed f e t c.stored.entry in
          (_, read_is f e b ws t _ c.stored (room_short t b well c.room) refl c.enough);
      only_if = λ d h.
          let s = then_good _ _ h in
          let t = s.value in
          let stored = stored_good s.first in
          let short = refuse_good _ _ _ _ s.after in
          let count = refuse_good _ _ _ _ short.1 in
          record {
            type = t;
            stored = stored;
            room = short_room t b (entry_well_formed f e t stored.entry) short.0;
            enough = ltb-false (length ws) (word_count (elements_in (length b) t) t) count.0;
          };
    }

-- ---- write

-- A write is good exactly if the entry is stored, the words are as many as it has, there is room, and each can be held.
pub write_good_if : (f : List ℕ) (e : ℕ) (ws b : List ℕ) → GoodIf (write_call f e ws b) (CanWrite f e ws b)
unfolding write_call write_type write_elements write_words
write_good_if f e ws b =
    record {
      if_so = λ c.
          let t = c.type in
          let n = c.elements in
          let x = counted t n ws (entry_well_formed f e t c.stored.entry) c.some_elements c.count in
          let fits : Fit (places (elements_for (length ws) t) t) ws = rw x.places_same c.words_fit in
          let room : extent_of (elements_for (length ws) t) t ≤ length b = rw x.extent_same c.room in (
            _,
            then_is _ (stored_is c.stored)
                ∙ refuse_no 14 0 x.right
                ∙ refuse_no 15 0 (le-ltb (length b) (extent_of (elements_for (length ws) t) t) room)
                ∙ next_is _ (fit_check_words 0 (places (elements_for (length ws) t) t) ws fits),
          );
      only_if = λ d h.
          let s = then_good _ _ h in
          let t = s.value in
          let n = elements_for (length ws) t in
          let count = refuse_good _ _ _ _ s.after in
          let room = refuse_good _ _ _ _ count.1 in
          let fit = next_good _ _ room.1 in
          let right = right_count t ws count.0 in
          record {
            type = t;
            stored = stored_good s.first;
            elements = n;
            some_elements = right.1;
            count = right.0;
            room = ltb-false (length b) (extent_of n t) room.0;
            words_fit = check_words_fit 0 (places n t) ws fit.0;
          };
    }

-- ---- view

-- A view is good exactly if the entry has a layout, the buffer has room and the steps lead somewhere.
pub view_good_if : (f : List ℕ) (e : ℕ) (steps b : List ℕ) → GoodIf (view_call f e steps b) (CanView f e steps b)
unfolding view_call target_call target_in
view_good_if f e steps b =
    record {
      if_so = λ c.
          let t = c.type in
          let well = entry_well_formed f e t c.laid.entry in (
            _,
            then_is _ (laid_is c.laid)
                ∙ refuse_no 15 0 (room_short t b well c.room)
                ∙ leads_walk c.valid 0,
          );
      only_if = λ u h.
          let s = then_good _ _ h in
          let t = s.value in
          let laid = laid_good false s.first in
          let short = refuse_good _ _ _ _ s.after in
          record {
            type = t;
            laid = laid;
            room = short_room t b (entry_well_formed f e t laid.entry) short.0;
            offset = u.offset;
            shape = u.shape;
            valid = walk_leads 0 0 (shape_of (elements_in (length b) t) t) (map step_of steps) u short.1;
          };
    }

-- ---- set

-- What `scalar_at` finds is the whole of the shape.
pub one_scalar : (x : Shape) (s : Scalar) → scalar_at x ≡ some s → x ≡ one s
unfolding scalar_at
one_scalar (one u) s e = ap one (some-injective u s e)
one_scalar (parts n stride x) s e = some_not_none e refl
one_scalar (field offset x rest) s e = some_not_none e refl
one_scalar (whole z) s e = some_not_none e refl

-- Steps that lead to a shape lead to what is the same.
pub leads_to : {off a : ℕ} {x y z : Shape} {steps : List Step} → y ≡ z → Leads off x steps a y → Leads off x steps a z
leads_to e l = rw e at l

-- A set is good exactly if the entry is stored, the buffer has room, and the steps lead to one scalar that can hold the words.
pub set_good_if : (f : List ℕ) (e : ℕ) (steps ws b : List ℕ) → GoodIf (set_call f e steps ws b) (CanSet f e steps ws b)
unfolding set_call set_target set_scalar target_call target_in scalar_at or_refuse word_places
set_good_if f e steps ws b =
    record {
      if_so = λ c.
          let t = c.type in
          let well = entry_well_formed f e t c.stored.entry in
          let x : Target = target c.offset (one c.scalar_there) in (
            _,
            then_is {a = x} _
                (then_is _ (stored_is c.stored) ∙ refuse_no 15 0 (room_short t b well c.room) ∙ leads_walk c.valid 0)
                ∙ then_is _ refl
                ∙ refuse_no 14 0 (ap not (eq-eqb _ _ c.holds.count))
                ∙ next_is _ (fit_check_words 0 (word_places c.scalar_there c.offset) ws c.holds.words_fit),
          );
      only_if = λ d h.
          let path = then_good _ _ h in
          let u = path.value in
          let s = then_good _ _ path.first in
          let t = s.value in
          let stored = stored_good s.first in
          let short = refuse_good _ _ _ _ s.after in
          let single = then_good _ _ path.after in
          let is = one_scalar u.shape single.value (or_refuse_good _ _ _ single.first) in
          let many = refuse_good _ _ _ _ single.after in
          let fit = next_good _ _ many.1 in
          let valid = walk_leads 0 0 (shape_of (elements_in (length b) t) t) (map step_of steps) u short.1 in
          record {
            type = t;
            stored = stored;
            room = short_room t b (entry_well_formed f e t stored.entry) short.0;
            offset = u.offset;
            scalar_there = single.value;
            valid = leads_to is valid;
            holds =
                record {
                  count = eqb-true _ _ (not-false _ many.0);
                  words_fit = check_words_fit 0 (word_places single.value u.offset) ws fit.0;
                };
          };
    }
