-- What is read, cut into lines: 10 is a line's end.
use Rattle.std.specs.Prelude.{◌≡◌, ℕ, ◌+◌, ◌-◌, ◌≤◌, Bool, true, false, List, [], length, take, drop, nat_le, nat_lt, if◌then◌else◌}
use Rattle.words.specs.Le.{put}
use Rattle.text.specs.Parts.{before}
use Rattle.session.specs.declared.input.Reader.{Reader}
use Rattle.session.specs.declared.input.Filled.{Filled}

-- the bytes from..to of a buffer: none, where it is shorter
unfoldable pub between : List ℕ → ℕ → ℕ → List ℕ
between s from to = if nat_le to (length s) then take (to - from) (drop from s) else []

-- what is read and not answered
abbrev pub held : List ℕ → Reader → List ℕ
held s r = between s r.from r.to

-- the first line of a text, without its end
abbrev pub first_line : List ℕ → List ℕ
first_line s = before 10 s

-- whether its end is there
unfoldable pub has_line : List ℕ → Bool
has_line s = nat_lt (length (first_line s)) (length s)

-- past a line of n bytes and its end: nothing is held, where there is no such line
unfoldable pub past_line : Reader → ℕ → Reader
past_line r n =
    if nat_lt n (r.to - r.from) then record { from = r.from + n + 1; to = r.to; cut = false }
    else record { from = 0; to = 0; cut = false }

-- past the first line held
abbrev pub past_first : List ℕ → Reader → Reader
past_first s r = past_line r (length (first_line (held s r)))

-- more was read behind the first n bytes of s, into t: they stay, and the answer f says up to where it goes
pub record ReadBehind (n : ℕ) (cut : Bool) (s : List ℕ) (f : Filled) (t : List ℕ) : Type 0 where
  pub start : f.reader.from ≡ 0
  pub same_cut : f.reader.cut ≡ cut
  pub stays : take n t ≡ take n s
  pub up_to_lem : n ≤ length s → (n ≤ f.reader.to) × (f.reader.to ≤ length s)
  pub more : f.more ≡ nat_lt n f.reader.to

-- what is held goes to the front, and more is read behind it; a line that fills the buffer is dropped
unfoldable pub kept_of : List ℕ → List ℕ → ℕ
kept_of h s = if nat_lt (length h) (length s) then length h else 0

unfoldable pub cut_of : List ℕ → List ℕ → Bool → Bool
cut_of h s cut = if nat_lt (length h) (length s) then cut else true

abbrev pub Refilled : List ℕ → Reader → Filled → List ℕ → Type 0
Refilled s r f t = ReadBehind (kept_of (held s r) s) (cut_of (held s r) s r.cut) (put 0 (held s r) s) f t
