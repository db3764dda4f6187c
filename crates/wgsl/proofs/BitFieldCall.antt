-- Laws of bit fields at a path (specs/BitFieldCall).
--
-- In order: an i32 or a u32; when the calls are good; an insertion is a set; so it changes one word alone; what is extracted after it.
-- Assumes nothing.
use Prim.Native.Nat.{ℕ, ◌+◌, ◌%◌, ◌^◌, ◌<◌, ◌≤◌}
use mathlib.Core.Bool.{Bool, true, false, not, cond}
use mathlib.Core.List.{List, [], ◌∷◌, map}
use mathlib.Core.Path.{◌≡◌, refl, ap, sym, ◌∙◌}
use native.Mathlib.Omega.{arith}
use borrow.Author.Tests.{not-false, eq-eqb}
use lib.ListN.{length, get_or}
use Rattle.wgsl.specs.Number.{load, store}
use Rattle.wgsl.specs.Round.{limit, up}
use Rattle.wgsl.specs.Types.{Scalar, bool, i32, u32, f32, f16, abstract_int, abstract_float, i64, u64, f64, Ty}
use Rattle.wgsl.specs.Size.{present, width_of, is_storable}
use Rattle.wgsl.specs.Said.{good, refused, or_refuse}
use Rattle.wgsl.specs.Place.{elements_in, one, shape_of, span_of, word_places, store_words, word_count, words_for, words_over}
use Rattle.wgsl.specs.Path.{Target, step_of}
use Rattle.wgsl.specs.Call.{Done, entry_for, is_short, target_in, target_call, view_call, scalar_at, set_scalar, set_target, set_call}
use Rattle.wgsl.specs.BitField.{bits_of, repeated_top, inserted}
use Rattle.wgsl.specs.Claim.{LaidOut, Fit, GoodIf, CanField, Holds}
use Rattle.wgsl.specs.Demand.{Given, Leading, SetThenRead}
use Rattle.wgsl.specs.BitFieldCall.{is_integer, is_signed, FoundInteger, integer_of, integer_at, word_of, extracted_as, extract_call, insert_call}
use Rattle.wgsl.proofs.Absent.{true_not_false}
use Rattle.wgsl.proofs.Said.{then_good, then_is, then_refused, next_is, refuse_good, refuse_no, or_refuse_good}
use Rattle.wgsl.proofs.Number.{length_store, load_bounded, load_store}
use Rattle.wgsl.proofs.Path.{target, walk_leads, leads_walk, target_inside}
use Rattle.wgsl.proofs.Word.{fit_check_words}
use Rattle.wgsl.proofs.EntryFor.{laid_good, stored_good, stored_is, unstored_is, entry_well_formed, entry_sound}
use Rattle.wgsl.proofs.IsShort.{short_no}
use Rattle.wgsl.proofs.Call.{done}
use Rattle.wgsl.proofs.IsShort.{short_room, room_short}
use Rattle.wgsl.proofs.Good.{one_scalar, leads_to}
use Rattle.wgsl.proofs.Demand.{demand_three}
use Rattle.wgsl.proofs.BitField.{inserted_word, extract_inserted, extract_inserted_signed}

-- ---- an i32 or a u32

-- It has four bytes.
pub integer_width : (s : Scalar) → is_integer s ≡ true → present (width_of s) ≡ 4
unfolding is_integer present width_of
integer_width bool e = true_not_false e refl
integer_width i32 e = refl
integer_width u32 e = refl
integer_width f32 e = true_not_false e refl
integer_width f16 e = true_not_false e refl
integer_width abstract_int e = true_not_false e refl
integer_width abstract_float e = true_not_false e refl
integer_width i64 e = true_not_false e refl
integer_width u64 e = true_not_false e refl
integer_width f64 e = true_not_false e refl

-- It takes one word, and holds every number of four bytes.
pub integer_places : (s : Scalar) (a : ℕ) → is_integer s ≡ true → word_places s a ≡ record { at = a; width = 4 } ∷ []
unfolding word_places words_for words_over up
integer_places s a e = rw (integer_width s e)

integer_holds : (s : Scalar) (a w : ℕ) → is_integer s ≡ true → w < 256 ^ 4 → Holds (present (width_of s)) a (w ∷ [])
unfolding Fit words_for words_over up
integer_holds s a w e small = record { count = rw (integer_width s e); words_fit = rw (integer_width s e) (small, tt) }

-- where it lies
abbrev found : ℕ → Scalar → FoundInteger
found a s = record { offset = a; scalar = s }

-- ---- when the calls are good

module _ (f : List ℕ) (e : ℕ) (steps b : List ℕ) where
  integer_good_if : GoodIf (integer_at f e steps b) (CanField f e steps b)
  unfolding integer_at integer_of target_call target_in scalar_at or_refuse
  integer_good_if =
      record {
        if_so = λ c.
            let t = c.type in
            let well = entry_well_formed f e t c.stored.entry in
            let x : Target = target c.offset (one c.scalar_there) in (
              _,
              then_is {a = x} _
                  (then_is _ (stored_is c.stored) ∙ refuse_no 15 0 (room_short t b well c.room) ∙ leads_walk c.valid 0)
                  ∙ then_is _ refl
                  ∙ refuse_no 14 0 (ap not c.integer),
            );
        only_if = λ x h.
            let path = then_good _ _ h in
            let u = path.value in
            let s = then_good _ _ path.first in
            let t = s.value in
            let stored = stored_good s.first in
            let short = refuse_good _ _ _ _ s.after in
            let single = then_good _ _ path.after in
            let kept = refuse_good _ _ _ _ single.after in
            let is = one_scalar u.shape single.value (or_refuse_good _ _ _ single.first) in
            let valid = walk_leads 0 0 (shape_of (elements_in (length b) t) t) (map step_of steps) u short.1 in
            record {
              type = t;
              stored = stored;
              room = short_room t b (entry_well_formed f e t stored.entry) short.0;
              offset = u.offset;
              scalar_there = single.value;
              valid = leads_to is valid;
              integer = not-false (is_integer single.value) kept.0;
            };
      }

  -- Both are good exactly if the entry is stored, the buffer has room, and the steps lead to one i32 or u32.
  pub extract_good_if : (offset count : ℕ) → GoodIf (extract_call f e steps b offset count) (CanField f e steps b)
  unfolding extract_call
  extract_good_if offset count =
      record {
        if_so = λ c. (_, then_is _ (integer_good_if.if_so c).1);
        only_if = λ v h. let s = then_good _ _ h in integer_good_if.only_if s.value s.first;
      }

  pub insert_good_if : (new offset count : ℕ) → GoodIf (insert_call f e steps new offset count b) (CanField f e steps b)
  unfolding insert_call
  insert_good_if new offset count =
      record {
        if_so = λ c. (_, then_is _ (integer_good_if.if_so c).1);
        only_if = λ v h. let s = then_good _ _ h in integer_good_if.only_if s.value s.first;
      }

-- ---- an insertion is a set

-- a view of a scalar, at an entry that is stored or not
record Viewed (f : List ℕ) (e : ℕ) (path b : List ℕ) (a : ℕ) (s : Scalar) : Type 0 where
  type : Ty
  laid : LaidOut f e b type
  leads : target_in type path b ≡ good (target a (one s))

viewed : {f : List ℕ} {e : ℕ} {b path : List ℕ} {a : ℕ} {s : Scalar} → Leading f e b path a s → Viewed f e path b a s
unfolding view_call target_call
viewed l = let s = then_good _ _ l.leads in record { type = s.value; laid = laid_good false s.first; leads = s.after }

module _ {f : List ℕ} {e : ℕ} {b path : List ℕ} {a : ℕ} {s : Scalar} (l : Leading f e b path a s) (integer : is_integer s ≡ true) where
  v : Viewed f e path b a s
  v = viewed l

  stored_yes : is_storable v.type ≡ true → target_call true f e path b ≡ good (target a (one s))
  unfolding target_call
  stored_yes q =
      let x = v.laid in
      then_is _ (stored_is (record { entry = x.entry; within = x.within; layout = x.layout; storable = q })) ∙ v.leads

  stored_no : is_storable v.type ≡ false → target_call true f e path b ≡ refused 10 0
  unfolding target_call
  stored_no q = then_refused _ (unstored_is v.laid q)

  integer_is : is_storable v.type ≡ true → integer_at f e path b ≡ good (found a s)
  unfolding integer_at integer_of scalar_at or_refuse
  integer_is q = then_is _ (stored_yes q) ∙ then_is _ refl ∙ refuse_no 14 0 (ap not integer)

  word_is : word_of (found a s) b ≡ load 4 b a
  unfolding word_of
  word_is = rw (integer_width s integer)

  -- An insertion is a set with the word that has the field in it.
  pub insertion_is_set : ((i : ℕ) → get_or b i 0 < 256) → (new offset count : ℕ) → insert_call f e path new offset count b ≡ set_call f e path (inserted (load 4 b a) new offset count ∷ []) b
  unfolding insert_call set_call set_target set_scalar integer_at scalar_at or_refuse word_places
  insertion_is_set bytes new offset count = go (is_storable v.type) refl
    where
      w : ℕ
      w = inserted (load 4 b a) new offset count

      holds : Holds (present (width_of s)) a (w ∷ [])
      holds = integer_holds s a w integer (inserted_word (load 4 b a) new offset count (load_bounded 4 b a bytes))

      go : (q : Bool) → is_storable v.type ≡ q → insert_call f e path new offset count b ≡ set_call f e path (w ∷ []) b
      go true q =
          then_is _ (integer_is q)
          ∙ ap (λ (x : ℕ). good (done a (store_words (word_places s a) (inserted x new offset count ∷ []) b))) word_is
          ∙ sym (then_is _ (stored_yes q)
          ∙ then_is _ refl
          ∙ refuse_no 14 0 (ap not (eq-eqb _ _ holds.count))
          ∙ next_is _ (fit_check_words 0 (word_places s a) (w ∷ []) holds.words_fit))
      go false q = then_refused _ (then_refused _ (stored_no q)) ∙ sym (then_refused _ (stored_no q))

-- ---- so it changes one word alone

-- Demand 3 for an insertion: it is never refused, the bytes outside its scalar stay, and a read then gives the old words with the word
-- replaced that has the field in it.
pub insertion_alone : {f : List ℕ} {e : ℕ} {b path : List ℕ} {a : ℕ} {s : Scalar} (g : Given f e b) → Leading f e b path a s → is_integer s ≡ true → ((i : ℕ) → get_or b i 0 < 256) → (new offset count : ℕ) (ws : List ℕ) → word_count 0 g.type ≤ length ws → (x : SetThenRead g path a s (inserted (load 4 b a) new offset count ∷ []) ws) × (insert_call f e path new offset count b ≡ good (done a x.b'))
insertion_alone {b = b} {path = path} {a = a} {s = s} g l integer bytes new offset count ws enough =
    let w = inserted (load 4 b a) new offset count in
    let holds = integer_holds s a w integer (inserted_word (load 4 b a) new offset count (load_bounded 4 b a bytes)) in
    let x = (demand_three g).set_read path a s l (w ∷ []) holds ws enough in
    (x, insertion_is_set l integer bytes new offset count ∙ x.set_is)

-- ---- what is extracted after it

-- which scalar a path leads to depends on the buffer's length alone
integer_same : (f : List ℕ) (e : ℕ) (path b c : List ℕ) → length b ≡ length c → integer_at f e path b ≡ integer_at f e path c
unfolding integer_at target_call entry_for target_in is_short
integer_same f e path b c same = rw same

-- The scalar that is found is an i32 or u32 that lies inside the buffer, which is within the limit.
pub integer_room : (f : List ℕ) (e : ℕ) (path b : List ℕ) (x : FoundInteger) → integer_at f e path b ≡ good x → (is_integer x.scalar ≡ true) × (x.offset + 4 ≤ length b) × (length b ≤ limit)
unfolding integer_at integer_of target_call target_in scalar_at span_of
integer_room f e path b x h =
    let way = then_good _ _ h in
    let u = way.value in
    let s = then_good _ _ way.first in
    let t = s.value in
    let stored = stored_good s.first in
    let short = refuse_good _ _ _ _ s.after in
    let single = then_good _ _ way.after in
    let k = single.value in
    let kept = refuse_good _ _ _ _ single.after in
    let is = one_scalar u.shape k (or_refuse_good _ _ _ single.first) in
    let integer = not-false (is_integer k) kept.0 in
    let n = elements_in (length b) t in
    let sound = entry_sound f e t stored.entry stored.layout n in
    let inside = target_inside 0 0 (shape_of n t) (map step_of path) u sound.0 short.1 in
    let same : found u.offset k ≡ x = cc kept.1 in
    rw (← same) (
      integer,
      omega (arith, inside.2, ap span_of is, integer_width k integer, sound.1, short_no t b short.0),
      stored.within,
    )

-- the field that was inserted, cut to c bits, and for i32 with the top one of them repeated above
extracted_again : (s : Scalar) (old new offset count : ℕ) → extracted_as s (inserted old new offset count) offset count ≡ cond (is_signed s) (repeated_top (bits_of offset count) (new % 2 ^ bits_of offset count)) (new % 2 ^ bits_of offset count)
unfolding extracted_as
extracted_again s old new offset count =
    rw (extract_inserted_signed old new offset count, extract_inserted old new offset count)

-- Extracting a freshly inserted field gives it back, cut to c bits, and for i32 with the top one of them repeated above.
pub extraction_after_insertion : (f : List ℕ) (e : ℕ) (path b : List ℕ) → ((i : ℕ) → get_or b i 0 < 256) → (new offset count : ℕ) (x : FoundInteger) → integer_at f e path b ≡ good x → (d : Done) → insert_call f e path new offset count b ≡ good d → extract_call f e path d.contents offset count ≡ good (cond (is_signed x.scalar) (repeated_top (bits_of offset count) (new % 2 ^ bits_of offset count)) (new % 2 ^ bits_of offset count))
unfolding insert_call extract_call word_of store_words
extraction_after_insertion f e path b bytes new offset count x h d is =
    let (integer, inside, within) = integer_room f e path b x h in
    let four = integer_width x.scalar integer in
    let at = x.offset in
    let w : ℕ = inserted (load 4 b at) new offset count in
    let made : insert_call f e path new offset count b ≡ good (done at (store_words (word_places x.scalar at) (inserted (word_of x b) new offset count ∷ []) b)) = then_is _ h in
    let same : d ≡ done at (store_words (word_places x.scalar at) (inserted (word_of x b) new offset count ∷ []) b) = cc in
    let after : d.contents ≡ store 4 b at w = ap (λ (y : Done). y.contents) same ∙ rw (integer_places x.scalar at integer, four) in
    let long : length d.contents ≡ length b = ap length after ∙ length_store 4 b at w in
    let back : load (present (width_of x.scalar)) d.contents at ≡ w =
    rw (four, after) (load_store 4 b at w inside (inserted_word (load 4 b at) new offset count (load_bounded 4 b at bytes))) in
    then_is _ (integer_same f e path d.contents b long ∙ h)
    ∙ ap (λ (y : ℕ). good (extracted_as x.scalar y offset count)) back
    ∙ ap good (extracted_again x.scalar (load 4 b at) new offset count)
