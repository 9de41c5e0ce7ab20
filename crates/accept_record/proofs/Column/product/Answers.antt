-- `accept_record::Column::product` meets its contract: the products have room. Assumes nothing.
use lib.Dec.{lit≤}
use Rattle.ring.proofs.Bounds.{small_more, numeral_room, conjugate_factor, small_conjugate_product}
use Rattle.accept_record.proofs.Column.product.Goals as goal

pub times-above-requires : goal.times-above-requires
times-above-requires c = conjugate_factor (numeral_room (tt, tt, tt)) c.args.self.top_small c.args.other.top_small c.conjugated.ensures

pub times-below-requires : goal.times-below-requires
times-below-requires c = conjugate_factor (numeral_room (tt, tt, tt)) c.args.self.bottom_small c.args.other.bottom_small c.conjugated-2.ensures

pub plus-requires : goal.plus-requires
plus-requires c = record {
  small =
      small_more (lit≤ tt) (small_conjugate_product c.args.self.top_small c.args.other.top_small c.conjugated.ensures c.times-above.ensures);
  small_2 =
      small_more (lit≤ tt)
      (small_conjugate_product c.args.self.bottom_small c.args.other.bottom_small c.conjugated-2.ensures c.times-below.ensures);
}
