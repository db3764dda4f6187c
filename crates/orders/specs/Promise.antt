-- What the functions under `plan_order` and `check_order` ask and promise, up to the calls (crates/wgsl, specs/Order).
--
-- In order: where a struct ends as it stands; a struct that a call means; the two calls.
-- Definitions only. Assumes nothing.
use Rattle.std.specs.Prelude.{ℕ, ◌≡◌, true, List, Result}
use Rattle.wgsl.specs.Types.{Ty, struct, Members, is_open, everywhere}
use Rattle.wgsl.specs.Rule.{is_well_formed}
use Rattle.wgsl.specs.Said.{or_refuse}
use Rattle.wgsl.specs.Place.{extent_of}
use Rattle.wgsl.specs.Order.{new_end, plan_members, plan_call, order_call}
use Rattle.said.specs.Answer.{said, Answered}
use Rattle.layout_values.specs.declared.value.Value.{Value}
use Rattle.layout_values.specs.Value.{value_of}
use Rattle.layout_table.specs.declared.Ground.{Ground}
use Rattle.walk_decide.specs.Decide.{rest_from, Findable}
use Rattle.walk_decide.specs.Meant.{Meant}
use Rattle.orders_members.specs.Entries.{Struct}
use Rattle.said.specs.declared.refusal.Refusal.{Refusal}

-- ---- where a struct ends as it stands

-- the type t, of the value l; its runtime array, if it ends in one, can be found, and begins where it says
pub record Ends (bytes : List ℕ) (table : List Value) (l : Value) (t : Ty) : Type 0 where
  pub value_is : l ≡ value_of l.stride l.reference t
  pub well_formed : everywhere is_well_formed t ≡ true
  pub findable : is_open t ≡ true → Findable bytes table l
  pub offset_is : is_open t ≡ true → extent_of 0 t ≡ (rest_from bytes table l).offset

-- ---- a struct that a call means

pub record StructMeant (bytes : List ℕ) (table : List Value) (l : Value) (ms : Members) : Type 0 where
  pub is_struct : Struct bytes table l ms
  pub number : ℕ
  pub ends : Ends bytes table l (struct number ms)

-- ---- the two calls

abbrev pub StructOrdered : List ℕ → List Value → Value → List ℕ → Result ℕ Refusal → Type 0
StructOrdered bytes table l order r =
    (k : ℕ) (ms : Members) → StructMeant bytes table l ms → said r ≡ or_refuse 23 0 (new_end k ms order)

abbrev pub StructPlanned : List ℕ → List Value → Value → Result ℕ Refusal → List ℕ → List ℕ → Type 0
StructPlanned bytes table l r before after =
    (ms : Members) → Struct bytes table l ms → Answered (plan_members ms before) r before after

abbrev pub MeantOrdered : List ℕ → ℕ → Ground → List Value → List ℕ → Result ℕ Refusal → Type 0
MeantOrdered f e g table order r = (t : Ty) → Meant f e g table t → said r ≡ order_call f e order

abbrev pub MeantPlanned : List ℕ → ℕ → Ground → List Value → Result ℕ Refusal → List ℕ → List ℕ → Type 0
MeantPlanned f e g table r before after =
    (t : Ty) → Meant f e g table t → Answered (plan_call f e before) r before after
