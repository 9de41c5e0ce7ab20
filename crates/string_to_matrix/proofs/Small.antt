-- A record that is called roomy leaves room in 64 bits to be multiplied and to be divided by √2. Assumes nothing.
use Prim.Native.Nat.{◌^◌}
use native.Mathlib.Nat.{le_trans}
use lib.Dec.{lit≤}
use Rattle.matrix.specs.declared.Matrix.{Matrix}
use Rattle.matrix.proofs.Small.{SmallElements, unitary_is_small}
use Rattle.string_to_matrix.specs.Room.{Roomy}

pub roomy_is_small : {m : Matrix} → Roomy m → SmallElements (2 ^ 60) m
roomy_is_small r = unitary_is_small 60 r.unitary (le_trans r.low (lit≤ tt))
