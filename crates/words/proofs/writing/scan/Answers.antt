-- Words that the fixed part refuses are refused; else the tail decides (crates/walk_decide, proofs/Whole). Where the tail begins does not
-- matter for the test.
use Rattle.std.specs.Prelude.{ℕ, List, Err, length}
use mathlib.Core.Path.{◌≡◌, ap, sym, ◌∙◌}
use native.Mathlib.Omega.{arith}
use Rattle.wgsl.specs.Types.{Ty}
use Rattle.wgsl.specs.Said.{Said, good, refused}
use Rattle.wgsl.specs.Place.{shape_of, places_of, places, word_count, check_words}
use Rattle.runs.specs.Fold.{over_places, testing}
use Rattle.runs.proofs.OverPlaces.{tested_words, tested_refused, tested_widths}
use Rattle.layout_values.specs.declared.value.Value.{Value}
use Rattle.walk_decide.specs.declared.Rest.{Rest}
use Rattle.walk_decide.specs.Whole.{Whole}
use Rattle.walk_decide.proofs.Whole.{fixed_words_lem, whole_words, both_parts, tested_good}
use Rattle.words_test.proofs.TestSteps.{places_moved}
use Rattle.words.proofs.writing.scan.Goals as goal

-- what the fixed part refuses, the whole does
refused_first : {ms : List ℕ} {table : List Value} {e : ℕ} {x : Rest} {t : Ty} {n : ℕ} (w : Whole ms table e x t n) (ws : List ℕ) (number place : ℕ) → length ws ≡ word_count n t → refused number place ≡ over_places (testing ws) (places_of (shape_of 0 t) 0) 0 (good tt) → refused number place ≡ check_words 0 (places n t) ws
unfolding word_count
refused_first {x = x} {t = t} {n = n} w ws number place l h =
    sym (tested_refused ws (places_of w.rest x.offset) x.fixed number place)
    ∙ ap (λ (s : Said (Unit {0})). over_places (testing ws) (places_of w.rest x.offset) x.fixed s) h
    ∙ sym (both_parts w (testing ws) (good tt))
    ∙ tested_words ws (places n t) 0 (omega arith)

pub scan_entry-requires : goal.scan_entry-requires
scan_entry-requires c =
    let (t, n, w, l) = c.requires in
    (_, w.tree, record { words_there = omega (arith, fixed_words_lem w, whole_words w) })

pub scan_many-requires : goal.scan_many-requires
scan_many-requires c =
    let (t, n, w, l) = c.requires in
    (w.rest, w.many, record { words_there = omega (arith, whole_words w) })

pub returns-in_err-scan_entry : goal.returns-in_err-scan_entry
returns-in_err-scan_entry c =
    let r = c.in_err-scan_entry.field-0.0 in
    let is : c.from_residual.result ≡ Err r = grind arith in
    λ t n w l. rw is (refused_first w _ _ _ l (c.in_err-scan_entry.ensures.said _ w.tree))

pub returns : goal.returns
returns c t n w l =
    tested_good w _ l (c.in_ok-scan_entry.ensures.said _ w.tree)
    (c.scan_many.ensures.said w.rest w.many ∙ tested_widths _ _ _ _ _ (places_moved w.rest 0 _))
