use Prim.Native.Nat.{ℕ, ◌+◌, ◌-◌, ◌*◌}
use mathlib.Core.Path.{◌≡◌, ap, ◌∙◌}
use native.Mathlib.Omega.{arith}
use lib.ListN.{take, drop}
use Rattle.words.specs.Le.{put}
use Rattle.words.proofs.Moves.{moved_to}
use Rattle.tracker.proofs.Raises.{raised}
use Rattle.tracker.proofs.restate.raise.Goals as goal

pub returns-then-m-k : goal.returns-then-m-k
returns-then-m-k c =
    let a = c.args in
    let up = c.copy_within.ensures.after ∙ moved_to a.s.now 0 (a.m * 72) ((a.k - a.m) * 72) (omega arith) (omega (arith, c.requires.0, c.requires.1)) in
    let at : (a.k - a.m) * 72 ≡ 0 + (a.k - a.m) * 72 = omega arith in
    let all : a.m * 72 - 0 ≡ a.m * 72 = omega arith in
    raised a.s.now a.m a.k c.requires.1 c.if-m-k.true _
    (up ∙ ap (λ (p : ℕ). put p (take (a.m * 72 - 0) (drop 0 a.s.now)) a.s.now) at ∙ ap (λ (n : ℕ). put (0 + (a.k - a.m) * 72) (take n (drop 0 a.s.now)) a.s.now) all)
