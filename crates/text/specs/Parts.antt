-- a text cut at a byte b: what stands before the first b, what after it, and the part between two
use Rattle.std.specs.Prelude.{ℕ, zero, suc, Bool, List, [], ◌∷◌, length, take, drop, if◌then◌else◌, slice_index, ◌==◌}
use Rattle.std.specs.Str.{bytes_eq}
use Rattle.text.specs.Bytes.{index_of}

-- all of it, where there is no b
abbrev pub before : ℕ → List ℕ → List ℕ
before b s = take (index_of b s) s

-- nothing, where there is no b
abbrev pub after : ℕ → List ℕ → List ℕ
after b s = drop (suc (index_of b s)) s

-- all from part i on, the parts counted from 0: nothing, where there are not so many
unfoldable pub rest : ℕ → ℕ → List ℕ → List ℕ
rest b zero s = s
rest b (suc i) s = rest b i (after b s)

-- part i
abbrev pub part : ℕ → ℕ → List ℕ → List ℕ
part b i s = before b (rest b i s)

-- how many parts there are: one more than b's
unfoldable pub parts : ℕ → List ℕ → ℕ
parts b [] = 1
parts b (x ∷ s) = if x == b then suc (parts b s) else parts b s

-- s without the b's at its start
unfoldable pub front : ℕ → List ℕ → List ℕ
front b [] = []
front b (x ∷ s) = if x == b then front b s else x ∷ s

-- how much of the first n bytes is left without the b's at their end
unfoldable pub kept : ℕ → List ℕ → ℕ → ℕ
kept b s zero = zero
kept b s (suc n) = if slice_index s n == b then kept b s n else suc n

-- s without the b's at both ends
abbrev pub trimmed : ℕ → List ℕ → List ℕ
trimmed b s = front b (take (kept b s (length s)) s)

-- whether two texts are the same
abbrev pub same_text : List ℕ → List ℕ → Bool
same_text s t = bytes_eq s t
