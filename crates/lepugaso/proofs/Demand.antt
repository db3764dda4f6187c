-- Demands 2 and 3 are met by the public calls (specs/Demand), from their claims and the laws over the definitions (crates/wgsl,
-- proofs/Claims).
--
-- In order: a call's answer; demand 2; a path to one scalar, by `view_at`; demand 3.
-- Assumes nothing.
use Rattle.std.specs.Prelude.{Ok, Result, ℕ}
use Prim.Native.Nat.{ℕ, ◌+◌, ◌%◌, ◌≤◌}
use mathlib.Core.List.{List}
use mathlib.Core.Logic.{◌⊎◌}
use mathlib.Core.Path.{◌≡◌, refl, ap, ap₂, sym, ◌∙◌}
use native.Mathlib.Omega.{arith}
use lib.ListN.{length, get_or, replicate, length-replicate}
use lib.Seq.{sets}
use Rattle.wgsl.specs.Types.{Scalar}
use Rattle.wgsl.specs.Size.{present, width_of}
use Rattle.wgsl.specs.Said.{Said, good, refused}
use Rattle.wgsl.specs.Place.{Shape, span_of, words_over, words_for, word_places, word_count}
use Rattle.wgsl.specs.Path as ways
use Rattle.wgsl.specs.Call.{Done, answer_of, contents_of, read_call, write_call, view_call}
use Rattle.wgsl.specs.Claim.{Apart, Holds}
use Rattle.wgsl.specs.Demand.{Given, Leading, Words, SetThenRead}
use Rattle.wgsl.proofs.Said.{good_not_refused}
use Rattle.wgsl.proofs.Claims.{writing_good_if, writing, reading_what_was_written}
use Rattle.wgsl.proofs.Demand.{demand_three}
use Rattle.said.proofs.Single.{single_number}
use Rattle.said.specs.declared.target.Target.{Target}
use Rattle.said.specs.Target.{target_is, reached}
use Rattle.paths.proofs.SetTarget.{scalar_shape}
use Rattle.lepugaso.specs.Claim.{Writes, Reads, Sets}
use Rattle.lepugaso.specs.Demand.{Filled, TwoOnTheCode, ToScalar, IsSet, OneReplaced, ThreeOnTheCode}
use Rattle.said.specs.declared.refusal.Refusal.{Refusal}
use Rattle.said.specs.Answer.{said}

-- ---- a call's answer

-- where the definition gives a value and contents, so does the call
good_answer : {asked : Said Done} {v : ℕ} {c : List ℕ} (r : Result ℕ Refusal) → asked ≡ good (record { value = v; contents = c }) → said r ≡ answer_of asked → r ≡ Ok v
unfolding answer_of
good_answer r is q = single_number r (Ok _) (q ∙ ap answer_of is) refl

good_contents : {asked : Said Done} {v : ℕ} {c after : List ℕ} (before : List ℕ) → asked ≡ good (record { value = v; contents = c }) → after ≡ contents_of before asked → after ≡ c
unfolding contents_of
good_contents before is q = q ∙ ap (contents_of before) is

-- where the call answers a value, so does the definition
answer_good : (asked : Said Done) (v : ℕ) → good v ≡ answer_of asked → (c : List ℕ) × (asked ≡ good (record { value = v; contents = c }))
unfolding answer_of
answer_good (good d) v q = let same : v ≡ d.value = cc in (d.contents, rw same refl)
answer_good (refused number place) v q = good_not_refused refl q

-- where the call refuses, nothing changes
answer_refused : {number place : ℕ} (asked : Said Done) (before : List ℕ) → refused number place ≡ answer_of asked → contents_of before asked ≡ before
unfolding answer_of contents_of
answer_refused (good d) before q = good_not_refused q refl
answer_refused (refused number place) before q = refl

-- ---- demand 2

module _ (f : List ℕ) (e : ℕ) (ws b : List ℕ) where
  wrote_filled : (n : ℕ) (b' : List ℕ) → Writes f e ws b (Ok n) b' → Filled f e ws b n b'
  wrote_filled n b' x =
      let (c, is) = answer_good (write_call f e ws b) n x.answer in
      let w = writing f e ws b (record { value = n; contents = c }) is in
      let same : b' ≡ c = good_contents b is x.buffer in
      rw same (record {
        type = w.type;
        elements = w.elements;
        stored = w.stored;
        some_elements = w.some_elements;
        count = w.count;
        size_filled = w.value_is;
        inside = omega (arith, w.value_is, w.fits);
        length_same = w.length_same;
        values_there = w.words_there;
        zero_elsewhere = w.zero_elsewhere;
        later_stay = w.later_stay;
        read_back = λ vs enough r vs' y.
            let back = reading_what_was_written f e ws b (record { value = n; contents = c }) is vs enough in
            (good_answer r back y.answer, good_contents vs back y.words);
      })

  -- Demand 2 is met by the calls.
  pub demand_two_on_the_code : TwoOnTheCode f e ws b
  demand_two_on_the_code =
      record {
        answered = λ r b' x can.
            let (d, is) = (writing_good_if f e ws b).if_so can in
            (d.value, good_answer r is x.answer);
        only_then = λ n b' x.
            let (c, is) = answer_good (write_call f e ws b) n x.answer in
            (writing_good_if f e ws b).only_if (record { value = n; contents = c }) is;
        filled = wrote_filled;
        refused_same = λ r b' x. x.buffer ∙ answer_refused (write_call f e ws b) b x.answer;
      }

-- ---- a path to one scalar

-- what it is: a path that leads to a scalar of t's offset and size
record ScalarAt (f : List ℕ) (e : ℕ) (b path : List ℕ) (t : Target) : Type 0 where
  kind : Scalar
  leading : Leading f e b path t.offset kind
  size_is : t.size ≡ present (width_of kind)

scalar_lies_at : {f : List ℕ} {e : ℕ} {b path : List ℕ} {t : Target} → ToScalar f e b path t → ScalarAt f e b path t
unfolding span_of
scalar_lies_at {f} {e} {b} {path} {t} x = go (view_call f e path b) refl x.views.answer
  where
    go : (asked : Said ways.Target) → view_call f e path b ≡ asked → good t ≡ reached asked → ScalarAt f e b path t
    go (good u) is q =
        let same : t ≡ target_is u = cc in
        let at : u.offset ≡ t.offset = sym (ap (λ (v : Target). v.offset) same) in
        let (s, shape) = scalar_shape u.shape (rw (← ap (λ (v : Target). v.scalar) same) x.scalar) in
        record {
          kind = s;
          leading = record { leads = is ∙ ap₂ (λ (o : ℕ) (y : Shape). good (record { offset = o; shape = y })) at shape };
          size_is = ap (λ (v : Target). v.size) same ∙ ap span_of shape;
        }
    go (refused number place) is q = good_not_refused refl q

-- ---- demand 3

module _ {f : List ℕ} {e : ℕ} {b : List ℕ} (g : Given f e b) where
  scalar_inside : (path : List ℕ) (t : Target) → ToScalar f e b path t → (t.offset + t.size ≤ g.size) × (t.offset % t.size ≡ 0)
  scalar_inside path t x =
      let y = scalar_lies_at x in
      rw y.size_is ((demand_three g).inside path t.offset y.kind y.leading)

  scalars_apart : (p q : List ℕ) (t u : Target) → ToScalar f e b p t → ToScalar f e b q u → Words p → Words q → (p ≡ q) ⊎ Apart t.offset t.size u.offset u.size
  scalars_apart p q t u x y v w =
      let s = scalar_lies_at x in
      let z = scalar_lies_at y in
      rw (s.size_is, z.size_is)
      ((demand_three g).apart p q t.offset u.offset s.kind z.kind s.leading z.leading v w)

  -- the definitions' demand, at the scalar that a path leads to
  module _ (path : List ℕ) (t : Target) (x : ToScalar f e b path t) (new : List ℕ) (holds : Holds t.size t.offset new) (r : Result ℕ Refusal) (b' : List ℕ) (s : Sets f e path new b r b') (ws : List ℕ) (enough : word_count 0 g.type ≤ length ws) where
    abbrev here : ScalarAt f e b path t
    here = scalar_lies_at x

    told : SetThenRead g path t.offset here.kind new ws
    told = (demand_three g).set_read path t.offset here.kind here.leading new (rw here.size_is at holds) ws enough

    buffer_is : b' ≡ told.b'
    buffer_is = good_contents b told.set_is s.buffer

    is_set : IsSet t b r b'
    is_set =
        record {
          not_refused = good_answer r told.set_is s.answer;
          length_same = ap length buffer_is ∙ told.length_same;
          others_stay = λ i o.
              ap (λ (c : List ℕ). get_or c i 0) buffer_is ∙ told.others_stay i (rw here.size_is at o);
        }

    one_replaced : (p q : Result ℕ Refusal) (old now : List ℕ) → Reads f e b ws p old → Reads f e b' ws q now → OneReplaced g t new p old q now
    unfolding word_places
    one_replaced p q old now before after =
        let after_is : read_call f e b' ws ≡ good (record { value = told.count; contents = sets told.old told.position new }) =
        ap (λ (c : List ℕ). read_call f e c ws) buffer_is ∙ told.read_after in
        let was : old ≡ told.old = good_contents ws told.read_before before.words in
        record {
          count = told.count;
          answer_before = good_answer p told.read_before before.answer;
          answer_after = good_answer q after_is after.answer;
          position = told.position;
          position_inside = told.position_inside;
          position_is =
              told.position_is ∙ ap (λ (z : ℕ). words_over (words_for z) z t.offset) (sym here.size_is);
          replaced =
              good_contents ws after_is after.words ∙ ap (λ (l : List ℕ). sets l told.position new) (sym was);
        }

  -- Demand 3 is met by the calls.
  pub demand_three_on_the_code : ThreeOnTheCode g
  demand_three_on_the_code =
      record {
        inside = scalar_inside;
        apart = scalars_apart;
        set_alone = λ path t x new holds r b' s.
            let some_words : List ℕ = replicate (word_count 0 g.type) 0 in
            is_set path t x new holds r b' s some_words (rw length-replicate (omega arith));
        read_back = λ path t x new holds r b' s ws enough. one_replaced path t x new holds r b' s ws enough;
      }
