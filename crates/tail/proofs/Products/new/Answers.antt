-- `tail::Products::new` meets its contract: the test of the table's rule, computed over the table itself. Assumes nothing.
use mathlib.Core.Path.{refl}
use Rattle.tail.proofs.Table.{every, entry_test, table_by_test}
use Rattle.tail.proofs.Products.new.Goals as goal

pub invariant_of-result : goal.invariant_of-result
unfolding every entry_test
invariant_of-result c = table_by_test _ refl tt

pub returns : goal.returns
unfolding every entry_test
returns c = table_by_test _ refl tt
