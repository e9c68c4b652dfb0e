use Rattle.store.proofs.Laws.{rows-put}
use Rattle.store.specs.Row.{Fitting, rows, row_bytes, word_bytes}
use Rattle.store.specs.declared.Words.{Words}
use Rattle.words.specs.Le.{put}
use Prim.Native.Nat.{◌*◌}
use mathlib.Core.Path.{◌≡◌, ap, ◌∙◌}
use native.Mathlib.Omega.{arith}
use Rattle.store.proofs.put_row.Goals as goal

pub returns : goal.returns
returns c = let w = c.words_of in
    let a = c.args in
    let f : Fitting w.result = omega (arith, w.type_inv) in
    let e : c.put_words.new.s ≡ put (a.i * 72) (row_bytes a.x) a.s.now = c.put_words.ensures ∙ ap (λ (v : Words). put (a.i * 72) (word_bytes v) a.s.now) w.ensures.0 in
    record {
      bytes = e;
      list = λ n h k. ap (rows n) e ∙ rows-put n a.s.now a.i a.x h k w.ensures.1 (rw w.ensures.0 at f);
    }
