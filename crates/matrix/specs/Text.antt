-- A quoted text, as the list of its bytes.
use Rattle.std.specs.Prelude.{ℕ, List, [], ◌∷◌}
use Prim.Native.Char.{code}
use Prim.Native.String.{String, [] as end, ◌∷◌ as ◌before◌}

unfoldable pub bytes : String → List ℕ
bytes end = []
bytes (◌before◌ letter rest) = code letter ∷ bytes rest
