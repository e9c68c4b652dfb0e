use mathlib.Core.Path.{◌≡◌, sym, ap, ◌∙◌}
use native.Mathlib.Omega.{arith}
use Rattle.span.specs.declared.span.FugueSpan.{FugueSpan}
use Rattle.span.specs.Span.{len_span, joins_span}
use Rattle.tracker.specs.Rows.{pairs, held}
use Rattle.tracker.proofs.Insides.{in_piece, at_piece, at_end}
use Rattle.tracker.proofs.fits.inside.Goals as goal

pub returns-then-f-rle_len : goal.returns-then-f-rle_len
returns-then-f-rle_len c = let a = c.args in let z : c.rle_len.result ≡ len_span a.f.piece = c.rle_len.ensures in sym (in_piece (pairs a.m a.v.now) (held a.h a.e.now a.t.now) a.n a.s.now a.f c.requires.1 (omega (arith, z, c.if-f-rle_len.true)))

pub returns : goal.returns
returns c = let a = c.args in let z : c.rle_len.result ≡ len_span a.f.piece = c.rle_len.ensures in let x = c.next_piece-next in c.can_merge.ensures ∙ (ap (λ (u : FugueSpan). joins_span u x.result.piece) c.left_unit.ensures ∙ sym (at_piece (pairs a.m a.v.now) (held a.h a.e.now a.t.now) a.n a.s.now a.f c.requires.1 (omega (arith, z, c.if-f-rle_len.false)) x.result x.ensures))

pub returns-then-n-f : goal.returns-then-n-f
returns-then-n-f c = let a = c.args in let z : c.rle_len.result ≡ len_span a.f.piece = c.rle_len.ensures in sym (at_end (pairs a.m a.v.now) (held a.h a.e.now a.t.now) a.n a.s.now a.f c.requires.1 (omega (arith, z, c.if-f-rle_len.false)) c.if-n-f.true)
