-- Lines of text as bytes.
use Rattle.std.specs.Prelude.{ℕ, List, [], ◌∷◌, ◌++◌}
use Prim.Native.Char.{code}
use Prim.Native.String as Text
use Prim.Native.String.{String}

-- the bytes of a text in ASCII, where a character's code is its byte
unfoldable pub bytes : String → List ℕ
bytes Text.[] = []
bytes (Text.◌∷◌ c s) = code c ∷ bytes s

-- "one space parts the fields": each field after one space, and a line feed at the end
unfoldable pub ended : List (List ℕ) → List ℕ
ended [] = bytes "\n"
ended (field ∷ fields) = bytes " " ++ (field ++ ended fields)

-- "Each line opens with its word"
unfoldable pub line : String → List (List ℕ) → List ℕ
line word fields = bytes word ++ ended fields
