-- `tail::Products::product` meets its contract: the entry at the tail and the column of the letter. Assumes nothing.
use Rattle.tail.proofs.Products.product.Goals as goal

pub returns : goal.returns
returns c =
    let column = c.column in
    rw column.ensures.stands at
    (c.self.invariant.product c.args.tail.number column.result c.args.tail.in_tails column.ensures.in_columns)
