-- The bytes from a up to e that move within a buffer are put at b.
use Rattle.std.proofs.Common.{◌≡◌, ℕ, ◌-◌, ◌≤◌, List, length, take, drop, arith}
use Rattle.std.specs.List.{copy_within}
use Rattle.std.proofs.lemmas.List.{length-take, length-drop, take-take, drop-take}
use Rattle.words.specs.Le.{put}

pub moved_to : (s : List ℕ) (a e b : ℕ) → a ≤ e → e ≤ length s → copy_within s a e b ≡ put b (take (e - a) (drop a s)) s
unfolding put
moved_to s a e b h f = grind (arith, length-take {A = ℕ}, length-drop {A = ℕ}, take-take {A = ℕ}, drop-take {X = ℕ})
