-- The iterator's test of each element is `all_below`.
use mathlib.Core.Path.{◌∙◌}
use borrow.Author.Rules.{rules}
use borrow.Author.Tests.{tests}
use lib.Dec.{ltb}
use Rattle.std.proofs.lemmas.Iterator.{YieldsList-from_slice}
use Rattle.std.proofs.lemmas.Iterator.Search.{all_from_yields_List}
use Rattle.convert_common.proofs.CommonOfAll.{all_below_is}
use Rattle.convert_common.proofs.all_below.Goals as goal

pub returns : goal.returns
returns c =
    let a = c.args in
    all_from_yields_List (λ n. ltb n a.types) _ _ _ c.all.ensures.ran (YieldsList-from_slice a.list.now cc) (λ x b q k. search (rules, tests))
    ∙ all_below_is a.list.now a.types
