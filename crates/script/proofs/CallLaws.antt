-- a call's words read one by one
use mathlib.Core.Path.{◌≡◌}
use mathlib.Core.List.{List}
use Prim.Native.Nat.{ℕ}
use Rattle.std.specs.Prelude.{Option}
use Rattle.span.specs.declared.span.FugueSpan.{FugueSpan}
use Rattle.text.specs.Parts.{rest}
use Rattle.script.specs.Field.{word_of, number_of, span_of}
use Rattle.script.specs.Call.{row_by, row_of}

module _ (t : List ℕ) where
  pub row_is : {i : Option ℕ} {x : Option FugueSpan} → i ≡ number_of (word_of t 0) → x ≡ span_of (rest 32 1 t) → row_by i x ≡ row_of t
  unfolding row_of
  row_is e0 e1 = rw (e0, e1)
