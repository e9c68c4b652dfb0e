-- lines said into the answer buffer, which is written out before a line that it might not take
use Rattle.std.specs.Prelude.{◌≡◌, ℕ, zero, suc, ◌+◌, ◌≤◌, List, [], ◌∷◌, ◌++◌, length, nat_lt, if◌then◌else◌}
use Rattle.words.specs.Le.{put}
use Rattle.text.specs.Puts.{written, placed}

-- where a line starts: at the front again, where the buffer was written out since it might not take another
unfoldable pub line_start : ℕ → ℕ
line_start at = if nat_lt at 64512 then at else 0

-- lines said one after the other: the place after them
unfoldable pub said_at : List (List ℕ) → ℕ → List ℕ → ℕ
said_at [] at s = at
said_at (l ∷ ls) at s = said_at ls (placed (line_start at) l s) (written (line_start at) l s)

-- and the buffer
unfoldable pub said_text : List (List ℕ) → ℕ → List ℕ → List ℕ
said_text [] at s = s
said_text (l ∷ ls) at s = said_text ls (placed (line_start at) l s) (written (line_start at) l s)

-- lines said at `at` into s end at r and leave t
abbrev pub Says : ℕ → List (List ℕ) → List ℕ → ℕ → List ℕ → Type 0
Says at ls s r t = (r ≡ said_at ls at s) × (t ≡ said_text ls at s)

-- the lines of f 0, f 1, .. up to n
unfoldable pub up_to : (ℕ → List (List ℕ)) → ℕ → List (List ℕ)
up_to f zero = []
up_to f (suc n) = up_to f n ++ f n

-- ---------------------------------------------------------------- where every line fits whole (proofs/ShortLaws, said_fits)

-- lines of 1,024 bytes at most
unfoldable pub Short : List (List ℕ) → Type 0
Short [] = Unit {0}
Short (l ∷ ls) = (length l ≤ 1024) × Short ls

-- the place after them, and the buffer, where none is cut
unfoldable pub whole_at : List (List ℕ) → ℕ → ℕ
whole_at [] at = at
whole_at (l ∷ ls) at = whole_at ls (line_start at + length l)

unfoldable pub whole_text : List (List ℕ) → ℕ → List ℕ → List ℕ
whole_text [] at s = s
whole_text (l ∷ ls) at s = whole_text ls (line_start at + length l) (put (line_start at) l s)
