-- Entries of a basis (crates/walk_shapes, specs/Basis), as reading and writing ask for them (specs/Whole), and the tails of open ones.
--
-- In order: a storable entry; an open entry whose runtime array is found; a runtime array; a struct that ends in one; every open entry.
-- Assumes nothing.
use Prim.Native.Nat.{ℕ, zero, suc, ◌+◌, ◌-◌, ◌*◌, ◌≤◌}
use mathlib.Core.Bool.{true}
use mathlib.Core.List.{List}
use mathlib.Core.Option.{none, some, some-injective}
use mathlib.Core.Path.{◌≡◌, refl, sym, ap, ◌∙◌}
use native.Mathlib.Omega.{arith}
use borrow.Author.Tests.{eq-eqb, ne_eqb}
use lib.ListN.{take, get_elem?}
use Rattle.wgsl.specs.Types.{Ty, runtime, struct, Members, no_more, ends_in_runtime, is_open, everywhere, every_member, kind_of}
use Rattle.wgsl.specs.Size.{is_present, present, align_of, stride_of, has_layout, is_plain, is_storable}
use Rattle.wgsl.specs.File.{trailer_of, type_entry_at}
use Rattle.wgsl.specs.Rule.{members_from, count_of, is_well_formed}
use Rattle.wgsl.specs.Place.{Tail, members_tail, tail_of, word_count, places}
use Rattle.wgsl.specs.Shapes.{shape_words, Opened}
use Rattle.wgsl.proofs.Absent.{both_hold, hold_both, true_not_false, some_present}
use Rattle.wgsl.proofs.Passed.{runtime_passed}
use Rattle.wgsl.proofs.AtEntry.{Refers, to_none, to_vector, to_matrix, to_array, to_runtime, to_atomic, to_members}
use Rattle.wgsl.proofs.Count.{count_words, words_positive, word_count_runtime}
use Rattle.wgsl.proofs.Opened.{last_of, runtime_opened, struct_opened}
use Rattle.file.specs.Members.{member_bytes, member_length}
use Rattle.layout_values.specs.declared.value.Value.{Value}
use Rattle.layout_values.proofs.ValuesOf.{own_reference}
use Rattle.layout_values.specs.Value.{parts_of, stride_in, fixed_words, value_of, value_at}
use Rattle.walk_trees.specs.Slot.{slot_in}
use Rattle.walk_shapes.specs.Basis.{Basis}
use Rattle.walk_shapes.proofs.Basis.{basis_inside, basis_layout, basis_well_formed, basis_refers}
use Rattle.walk_shapes.proofs.Kept.{kept, kept_words, kept_layout, runtime_element, element_shape}
use Rattle.walk_shapes.proofs.MemberRead.{struct_ruled, count_from}
use Rattle.walk_shapes.proofs.LastMember.{last_everywhere, last_placed}
use Rattle.walk_shapes.proofs.TreesOf.{trees, runtime_many}
use Rattle.walk_shapes.proofs.RunAt.{whole_run, run_asks}
use Rattle.walk_decide.specs.declared.Rest as declared
use Rattle.walk_decide.specs.Decide.{rest_from, last_slot, Findable}
use Rattle.walk_decide.specs.Whole.{Ready, Tailed}

-- A runtime array is storable where nothing within it is not.
runtime_storable : (u : Ty) → everywhere is_well_formed (runtime u) ≡ true → everywhere is_plain (runtime u) ≡ true → is_storable (runtime u) ≡ true
unfolding is_storable has_layout is_open align_of
runtime_storable u well plain =
    hold_both (has_layout (runtime u)) (everywhere is_plain (runtime u))
    (hold_both (is_present (align_of u)) true (some_present (runtime_passed u well).aligned_is) refl) plain

module _ {f : List ℕ} {ts : List Ty} {ms : List ℕ} {table : List Value} (basis : Basis f ts ms table) (e : ℕ) where
  -- ---- a storable entry

  -- The layout of an entry is its type's value.
  pub layout_value : (t : Ty) → get_elem? ts e ≡ some t → value_at table e ≡ value_of (value_at table e).stride (value_at table e).reference t
  layout_value t there = own_reference (member_length f) (type_entry_at f e).reference t (basis_layout basis e t there)

  pub ready_at : (t : Ty) → get_elem? ts e ≡ some t → is_storable t ≡ true → Ready ms table e (value_at table e) t
  unfolding places
  ready_at t there storable =
      record {
        is_layout = layout_value t there;
        well_formed = basis_well_formed basis e t there;
        storable = storable;
        counted = (run_asks basis e t there).counted;
        run_asks = run_asks basis e t there;
        tree = trees basis e t there storable;
        covered =
            λ h n.
            let (count, at, extent, width) = whole_run basis e t there storable h n in
            record { two_or_four = width; count = count; places_are = at 0; extent_is = extent };
      }

  -- ---- an open entry whose runtime array is found

  -- the tail of entry e, of the type t, is entry i, a runtime array of elements of the type u
  pub record TailFound (t : Ty) (i : ℕ) (u : Ty) : Type 0 where
    pub findable : Findable ms table (value_at table e)
    pub is_layout : (rest_from ms table (value_at table e)).value ≡ value_at table i
    pub there : get_elem? ts i ≡ some (runtime u)
    pub opened : Opened t u (record { offset = (rest_from ms table (value_at table e)).offset; stride = present (stride_of u) })
    pub fixed_is : has_layout t ≡ true → word_count 0 t ≡ (rest_from ms table (value_at table e)).fixed
    pub storable : is_storable t ≡ true → is_storable (runtime u) ≡ true

  stride_is : {t u : Ty} {i : ℕ} → TailFound t i u → (rest_from ms table (value_at table e)).value.stride ≡ present (stride_of u)
  unfolding value_of stride_in parts_of
  stride_is {u = u} {i = i} x =
      ap (λ (l : Value). l.stride) (x.is_layout ∙ basis_layout basis i (runtime u) x.there)

  -- Its tail, with the stride that the table has.
  pub found_opened : {t u : Ty} {i : ℕ} (x : TailFound t i u) → Opened t u (record { offset = (rest_from ms table (value_at table e)).offset; stride = (rest_from ms table (value_at table e)).value.stride })
  found_opened x = rw (stride_is x) x.opened

  found_tailed : {t u : Ty} {i : ℕ} → get_elem? ts e ≡ some t → is_storable t ≡ true → TailFound t i u → Tailed ms table e (value_at table e) t
  unfolding value_of parts_of is_storable
  found_tailed {t} {u} {i} there h x =
      let well = basis_well_formed basis i (runtime u) x.there in
      let k = kept (runtime u) well (x.storable h) in
      let y = runtime_element k in
      let unit : (rest_from ms table (value_at table e)).value.unit ≡ fixed_words u =
      ap (λ (l : Value). l.unit) (x.is_layout ∙ basis_layout basis i (runtime u) x.there) ∙ rw (kept_layout k) in
      let unit_words : (n : ℕ) → word_count n u ≡ (rest_from ms table (value_at table e)).value.unit =
      λ n. count_words n u ∙ ap shape_words (element_shape y n) ∙ sym (unit ∙ kept_words y.element) in
      record {
        ready = ready_at t there h;
        findable = x.findable;
        element = u;
        opened = found_opened x;
        fixed_is = x.fixed_is (both_hold (has_layout t) (everywhere is_plain t) h).0;
        many = λ n. rw x.is_layout (runtime_many basis i u x.there (x.storable h) n);
        unit_is = unit_words;
        unit_above = omega (arith, unit_words 1, words_positive 1 u (runtime_passed u well).aligned (runtime_passed u well).below (runtime_passed u well).aligned_is (λ o. omega arith));
      }

  kind_is : (t : Ty) → get_elem? ts e ≡ some t → (value_at table e).kind ≡ kind_of t
  unfolding value_of
  kind_is t there = ap (λ (l : Value). l.kind) (basis_layout basis e t there)

  -- ---- a runtime array

  tail_here : (value_at table e).kind ≡ 10 → rest_from ms table (value_at table e) ≡ record { value = value_at table e; offset = 0; fixed = 0 }
  unfolding rest_from
  tail_here h = rw (eq-eqb (value_at table e).kind 10 h)

  runtime_found : (u : Ty) → get_elem? ts e ≡ some (runtime u) → TailFound (runtime u) e u
  unfolding kind_of
  runtime_found u there =
      let kind : (value_at table e).kind ≡ 10 = kind_is (runtime u) there in
      let tail = tail_here kind in
      record {
        findable = record { some_members = λ q. absurd (q kind); slots_ask = λ q. absurd (q kind); inside = λ q. absurd (q kind) };
        is_layout = ap (λ (x : declared.Rest). x.value) tail;
        there = there;
        opened = rw tail (runtime_opened u);
        fixed_is = λ h. omega (arith, word_count_runtime 0 u, ap (λ (x : declared.Rest). x.fixed) tail);
        storable = λ h. h;
      }

  -- ---- a struct that ends in one

  tail_last : ((value_at table e).kind ≡ 10 → ⊥) → rest_from ms table (value_at table e) ≡ record { value = value_at table (last_slot ms table (value_at table e)).ty; offset = (last_slot ms table (value_at table e)).start; fixed = (value_at table e).unit }
  unfolding rest_from
  tail_last h = rw (ne_eqb (value_at table e).kind 10 h)

  struct_numbers_lem : (ns : Members) → get_elem? ts e ≡ some (struct e ns) → ((value_at table e).stride ≡ member_length f) × ((value_at table e).count ≡ count_of ns) × ((value_at table e).reference ≡ (type_entry_at f e).reference)
  unfolding value_of stride_in parts_of present
  struct_numbers_lem ns there =
      let is = basis_layout basis e (struct e ns) there in
      (ap (λ (l : Value). l.stride) is, ap (λ (l : Value). l.count) is, ap (λ (l : Value). l.reference) is)

  struct_unit : (ns : Members) → get_elem? ts e ≡ some (struct e ns) → has_layout (struct e ns) ≡ true → (value_at table e).unit ≡ word_count 0 (struct e ns)
  unfolding value_of parts_of
  struct_unit ns there h = ap (λ (l : Value). l.unit) (basis_layout basis e (struct e ns) there) ∙ rw h

  struct_kind_lem : (ns : Members) → get_elem? ts e ≡ some (struct e ns) → (value_at table e).kind ≡ 10 → ⊥
  unfolding kind_of
  struct_kind_lem ns there q = omega (arith, kind_is (struct e ns) there)

  tail_same : (ns : Members) (a b : Tail) → tail_of (struct e ns) ≡ some a → members_tail none (some 0) ns ≡ some b → a ≡ b
  unfolding tail_of
  tail_same ns a b p q = some-injective _ _ (sym p ∙ q)

  last_storable : (ns : Members) (u : Ty) (i : ℕ) → get_elem? ts i ≡ some (runtime u) → last_of (struct e ns) ns ≡ runtime u → is_storable (struct e ns) ≡ true → is_storable (runtime u) ≡ true
  unfolding is_storable everywhere
  last_storable ns u i there last h =
      let t = struct e ns in
      let plain = (both_hold (has_layout t) (everywhere is_plain t) h).1 in
      let members_plain = (both_hold (is_plain t) (every_member is_plain ns) plain).1 in
      runtime_storable u (basis_well_formed basis i (runtime u) there) (rw last at (last_everywhere is_plain t ns plain members_plain))

  struct_found : (ns : Members) (count : ℕ) → (type_entry_at f e).count ≡ count → members_from f (take e ts) count (type_entry_at f e).reference ≡ some ns → (type_entry_at f e).reference + count ≤ (trailer_of f).members → get_elem? ts e ≡ some (struct e ns) → is_open (struct e ns) ≡ true → (i : ℕ) × (u : Ty) × TailFound (struct e ns) i u
  unfolding members_from is_open ends_in_runtime
  struct_found ns zero is are within there o =
      let z : ns ≡ no_more = cc in
      true_not_false (rw z at o) refl
  struct_found ns (suc n) is are within there o =
      let t = struct e ns in
      let well = basis_well_formed basis e t there in
      let (u, tail, last, opened) = struct_opened e ns well o in
      let x = last_placed basis e n (type_entry_at f e).reference 0 t u ns are within (struct_ruled e ns well) last in
      let numbers = struct_numbers_lem ns there in
      let counted : count_of ns ≡ suc n = count_from f (take e ts) (suc n) (type_entry_at f e).reference ns are in
      let less : (value_at table e).count - 1 ≡ n = omega (arith, numbers) in
      let placed : last_slot ms table (value_at table e) ≡ slot_in (member_bytes f) table (member_length f) ((type_entry_at f e).reference * member_length f) 0 n =
      rw (basis.members_are, less, numbers.0, numbers.2) in
      let not_ten = struct_kind_lem ns there in
      let found = tail_last not_ten in
      let there' : get_elem? ts (last_slot ms table (value_at table e)).ty ≡ some (runtime u) = rw placed x.there in
      let start : tail ≡ record { offset = (last_slot ms table (value_at table e)).start; stride = present (stride_of u) } =
      rw placed (tail_same ns tail _ opened.tail_is (x.tail_is none)) in (
        (last_slot ms table (value_at table e)).ty,
        u,
        record {
          findable =
              record {
                some_members = λ q. omega (arith, numbers);
                slots_ask = λ q. rw (basis.members_are, less, numbers.0, numbers.2) x.slots_ask;
                inside = λ q. basis_inside basis _ (runtime u) there';
              };
          is_layout = ap (λ (y : declared.Rest). y.value) found;
          there = there';
          opened = rw (found, ← start) opened;
          fixed_is = λ h. rw found (sym (struct_unit ns there h));
          storable = λ h. last_storable ns u (last_slot ms table (value_at table e)).ty there' last h;
        },
      )

  -- ---- every open entry

  pub open_found : (t : Ty) → get_elem? ts e ≡ some t → is_open t ≡ true → (i : ℕ) × (u : Ty) × TailFound t i u
  unfolding is_open
  open_found t there = go (basis_refers basis e t there) there
    where
      go : {t : Ty} → Refers f ts e (type_entry_at f e) t → get_elem? ts e ≡ some t → is_open t ≡ true → (i : ℕ) × (u : Ty) × TailFound t i u
      go (to_none s) there o = true_not_false o refl
      go (to_vector s down found) there o = true_not_false o refl
      go (to_matrix s down found) there o = true_not_false o refl
      go (to_array u down found) there o = true_not_false o refl
      go (to_runtime u no-count down found) there o = (e, u, runtime_found u there)
      go (to_atomic s down found) there o = true_not_false o refl
      go (to_members ns are within) there o = struct_found ns (type_entry_at f e).count refl are within there o

  pub tailed_at : (t : Ty) → get_elem? ts e ≡ some t → is_storable t ≡ true → is_open t ≡ true → Tailed ms table e (value_at table e) t
  tailed_at t there h o =
      let (i, u, x) = open_found t there o in
      found_tailed there h x
