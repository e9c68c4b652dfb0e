-- the bytes of a text of ASCII characters
use Rattle.std.specs.Prelude.{ℕ, List, [], ◌∷◌}
use Prim.Native.Char.{code}
use Prim.Native.String.{String}
use Prim.Native.String as Text

abbrev pub ascii : String → List ℕ
ascii Text.[] = []
ascii (Text.◌∷◌ c s) = code c ∷ ascii s
