use Rattle.tracker.proofs.Nexts.{row_fine, row_few, next_in, next_out}
use Rattle.tracker.specs.Looks.{Piece}
use Rattle.tracker.specs.Rows.{pairs, held}
use Rattle.store.specs.Row.{row_at}
use Rattle.span.specs.Span.{len_span, span_code}
use Rattle.span.specs.declared.span.FugueSpan.{FugueSpan}
use Prim.Native.Nat.{◌+◌, ◌*◌, ◌≤◌, ◌<◌}
use mathlib.Core.Path.{◌≡◌, sym, ap, subst, ◌∙◌}
use native.Mathlib.Omega.{arith}
use Rattle.tracker.proofs.seen.next_piece.Goals as goal

pub seen_piece-piece-requires : goal.seen_piece-piece-requires
seen_piece-piece-requires c = let a = c.args in let g = sym c.get_row-row.ensures in let w = c.requires.0.stored in (c.requires.0.first, c.requires.0.second, subst (λ (r : FugueSpan). span_code r ≡ 0) g (row_fine a.n a.s.now w a.i c.requires.2), subst (λ (r : FugueSpan). a.from < len_span r) g (c.requires.1.within c.requires.2), subst (λ (r : FugueSpan). len_span r ≤ 65536) g (row_few a.n a.s.now w a.i c.requires.2))

pub overflow_add-to : goal.overflow_add-to
overflow_add-to c = let a = c.args in let x = c.seen_piece-piece in let g = c.get_row-row in let q : Piece a.both (pairs a.ka a.a.now) (pairs a.kb a.b.now) (held a.h a.e.now a.t.now) (row_at a.s.now (a.i * 72)) a.from x.result = subst (λ (r : FugueSpan). Piece a.both (pairs a.ka a.a.now) (pairs a.kb a.b.now) (held a.h a.e.now a.t.now) r a.from x.result) g.ensures x.ensures in let z : c.rle_len.result ≡ len_span x.result = c.rle_len.ensures in omega (arith, z, q.few, row_few a.n a.s.now c.requires.0.stored a.i c.requires.2)

pub returns-then-to-rle_len : goal.returns-then-to-rle_len
returns-then-to-rle_len c = let a = c.args in let x = c.seen_piece-piece in let g = c.get_row-row in let q : Piece a.both (pairs a.ka a.a.now) (pairs a.kb a.b.now) (held a.h a.e.now a.t.now) (row_at a.s.now (a.i * 72)) a.from x.result = subst (λ (r : FugueSpan). Piece a.both (pairs a.ka a.a.now) (pairs a.kb a.b.now) (held a.h a.e.now a.t.now) r a.from x.result) g.ensures x.ensures in let y = c.rle_len-2 in let z : y.result ≡ len_span (row_at a.s.now (a.i * 72)) = y.ensures ∙ ap len_span g.ensures in next_in a.n a.s.now c.requires.0.stored a.both (pairs a.ka a.a.now) (pairs a.kb a.b.now) (held a.h a.e.now a.t.now) a.i a.from c.requires.1 c.requires.2 x.result q (a.from + c.rle_len.result) (ap (λ k. a.from + k) c.rle_len.ensures) (omega (arith, z, c.if-to-rle_len.true))

pub returns-else-to-rle_len : goal.returns-else-to-rle_len
returns-else-to-rle_len c = let a = c.args in let x = c.seen_piece-piece in let g = c.get_row-row in let q : Piece a.both (pairs a.ka a.a.now) (pairs a.kb a.b.now) (held a.h a.e.now a.t.now) (row_at a.s.now (a.i * 72)) a.from x.result = subst (λ (r : FugueSpan). Piece a.both (pairs a.ka a.a.now) (pairs a.kb a.b.now) (held a.h a.e.now a.t.now) r a.from x.result) g.ensures x.ensures in let y = c.rle_len-2 in let z : y.result ≡ len_span (row_at a.s.now (a.i * 72)) = y.ensures ∙ ap len_span g.ensures in next_out a.n a.s.now c.requires.0.stored a.both (pairs a.ka a.a.now) (pairs a.kb a.b.now) (held a.h a.e.now a.t.now) a.i a.from c.requires.1 c.requires.2 x.result q (a.from + c.rle_len.result) (ap (λ k. a.from + k) c.rle_len.ensures) (omega (arith, z, c.if-to-rle_len.false))
