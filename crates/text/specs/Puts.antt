-- bytes put into a lent buffer at a place, as many as fit
use Rattle.std.specs.Prelude.{ℕ, suc, ◌+◌, ◌≡◌, List, length, take, if◌then◌else◌, nat_le}
use Rattle.words.specs.Le.{put}

-- the buffer afterwards: what does not fit is left out
unfoldable pub written : ℕ → List ℕ → List ℕ → List ℕ
written at w s = take (length s) (put at w s)

-- the place after w: just past the end, where w did not fit whole, and there nothing fits any more
unfoldable pub placed : ℕ → List ℕ → List ℕ → ℕ
placed at w s = if nat_le (at + length w) (length s) then at + length w else suc (length s)

-- a put of w at `at` into s answers r and leaves t
abbrev pub Puts : ℕ → List ℕ → List ℕ → ℕ → List ℕ → Type 0
Puts at w s r t = (r ≡ placed at w s) × (t ≡ written at w s)
