-- An answer as the numbers that cross to C.
--
-- In order: an answer that is a number; the four numbers of a layout; the bytes of a view, and which buffer shows a member; places.
-- Definitions only. Assumes nothing.
use Rattle.std.specs.Prelude.{ℕ, ◌%◌, ◌^◌, List, [], ◌∷◌, cond, ◌≡◌}
use Rattle.std.proofs.Math.Option.{Option, none, some}
use Rattle.wgsl.specs.Said.{Said, good, refused}
use Rattle.wgsl.specs.Place.{span_of}
use Rattle.wgsl.specs.Path.{Target}
use Rattle.wgsl.specs.Call.{Layout, answer_of, offset_of, check_of, size_call, align_call, min_size_call, layout_call, read_call, write_call, view_call, set_call, rank_call, common_call}
use Rattle.wgsl.specs.BitField.{bit_at}
use Rattle.wgsl.specs.BitFieldCall.{extract_call, insert_call}
use Rattle.wgsl.specs.Uniform.{uniform_call}
use Rattle.wgsl.specs.Form.{move_on_call, move_back_call}
use Rattle.wgsl.specs.Site.{inheriting_call, fresh_call, member_call, site_set_call, site_answer, clear_call, zero_of}
use Rattle.wgsl.specs.Clean.{clean_call, changed_of}
use Rattle.wgsl.specs.Order.{plan_call, order_call}
use Rattle.wgsl.specs.Literal.{convert_call}
use Rattle.surface.specs.declared.Crossing.{Crossing}

-- 0 and the value, or the refusal's number and place
abbrev pub crossed : Said ℕ → Crossing
crossed (good v) = record { refusal = 0; place = 0; value = v }
crossed (refused number place) = record { refusal = number; place = place % 2 ^ 32; value = 0 }

-- an absent number is the largest of 64 bits, which no size, no alignment and no stride is
abbrev pub crossed_maybe : Option ℕ → ℕ
crossed_maybe (some n) = n
crossed_maybe none = 18446744073709551615

-- the answer beside a layout: 0 where there is one
abbrev pub told : Said Layout → Said ℕ
told (good l) = good 0
told (refused number place) = refused number place

-- what the four numbers lent hold at the end: "A refusal changes nothing lent"
abbrev pub laid_out : Said Layout → List ℕ → List ℕ
laid_out (good l) before =
    crossed_maybe l.size ∷ crossed_maybe l.align ∷ crossed_maybe l.min_size ∷ crossed_maybe l.stride ∷ []
laid_out (refused number place) before = before

-- what the one number lent holds at the end, beside the offset of a view
abbrev pub size_out : Said Target → ℕ → ℕ
size_out (good t) before = span_of t.shape
size_out (refused number place) before = before

-- what the one number lent holds at the end, beside the offset of a member: 1 where the site buffer shows it
abbrev pub site_out : Said Target → ℕ → ℕ → ℕ → ℕ
site_out (good t) mask member before = cond (bit_at mask member) 1 0
site_out (refused number place) mask member before = before

-- ---- places

-- a refusal crosses whole: its number, and all of its place
abbrev pub CrossesWhole : Said ℕ → Type 0
CrossesWhole said =
    (number place : ℕ) → said ≡ refused number place → crossed said ≡ record { refusal = number; place = place; value = 0 }

-- the same of every call
pub record AllCross (f : List ℕ) : Type 0 where
  pub check : CrossesWhole (check_of f)
  pub size : (e : ℕ) → CrossesWhole (size_call f e)
  pub align : (e : ℕ) → CrossesWhole (align_call f e)
  pub minimum_size : (e : ℕ) → CrossesWhole (min_size_call f e)
  pub layout : (e : ℕ) → CrossesWhole (told (layout_call f e))
  pub read : (e : ℕ) (b ws : List ℕ) → CrossesWhole (answer_of (read_call f e b ws))
  pub write : (e : ℕ) (ws b : List ℕ) → CrossesWhole (answer_of (write_call f e ws b))
  pub view : (e : ℕ) (steps b : List ℕ) → CrossesWhole (offset_of (view_call f e steps b))
  pub set : (e : ℕ) (steps ws b : List ℕ) → CrossesWhole (answer_of (set_call f e steps ws b))
  pub extract : (e : ℕ) (steps b : List ℕ) (offset count : ℕ) → CrossesWhole (extract_call f e steps b offset count)
  pub insert : (e : ℕ) (steps : List ℕ) (new offset count : ℕ) (b : List ℕ) → CrossesWhole (answer_of (insert_call f e steps new offset count b))
  pub uniform : (e : ℕ) → CrossesWhole (uniform_call f e)
  pub rank : (x y : ℕ) → CrossesWhole (rank_call f x y)
  pub common : (es : List ℕ) → CrossesWhole (common_call f es)
  pub to_form_2 : (out : List ℕ) → CrossesWhole (answer_of (move_on_call f out))
  pub to_form_1 : (out : List ℕ) → CrossesWhole (answer_of (move_back_call f out))
  pub site_inheriting : (e : ℕ) → CrossesWhole (zero_of (inheriting_call f e))
  pub site_fresh : (e : ℕ) (factory site : List ℕ) → CrossesWhole (site_answer (fresh_call f e factory site))
  pub site_clear : (e k mask : ℕ) → CrossesWhole (zero_of (clear_call f e k mask))
  pub site_member : (e k mask : ℕ) (factory site : List ℕ) → CrossesWhole (offset_of (member_call f e k mask factory site))
  pub site_set : (e k : ℕ) (steps ws : List ℕ) (mask : ℕ) (factory site : List ℕ) → CrossesWhole (site_answer (site_set_call f e k steps ws mask factory site))
  pub clean : (e : ℕ) (b : List ℕ) → CrossesWhole (changed_of (clean_call f e b))
  pub plan_order : (e : ℕ) (lent : List ℕ) → CrossesWhole (answer_of (plan_call f e lent))
  pub check_order : (e : ℕ) (order : List ℕ) → CrossesWhole (order_call f e order)
  pub convert : (from bits to : ℕ) → CrossesWhole (convert_call from bits to)
