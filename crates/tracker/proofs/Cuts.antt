-- how many rows units become when they are joined: one more than there are neighbours that do not join
use Prim.Native.Nat.{ℕ, suc, ◌+◌, ◌≤◌}
use mathlib.Core.Path.{◌≡◌, refl, sym, ap, ◌∙◌}
use mathlib.Core.Bool.{Bool, true, false, cond, true≢false}
use mathlib.Core.List.{List, [], ◌∷◌, ◌++◌}
use native.Mathlib.Omega.{arith}
use lib.ListN.{length}
use Rattle.span.specs.declared.chunk.RichtextChunk.{RichtextChunk}
use Rattle.span.specs.declared.span.FugueSpan.{FugueSpan}
use Rattle.span.specs.Chunk.{part_chunk}
use Rattle.span.specs.Span.{len_span, shift, part_span, joins_span, merged_span}
use Rattle.span.specs.Units.{join_on, join}
use Rattle.span.proofs.SpanLaws.{span_ok}
use Rattle.span.proofs.Views.{part_whole}
use Rattle.span.proofs.JoinLaws.{merged_left_lem}
use Rattle.span.proofs.UnitLaws.{shift_zero, shift_merged, merged_content, join_to, both}
use Rattle.span.proofs.Unique.{merged_ok}
use Rattle.rope.proofs.Edges.{left_of_merged, part_to_whole}

-- ---- what joins a span joins its first part, and the other way round

-- the first units of two that join are the left one
front : (v t : FugueSpan) → joins_span v t ≡ true → part_span (merged_span v t) 0 (len_span v) ≡ v
front v t e =
    let k = join_to v t e in
    shift_merged v t 0 (part_chunk (merged_span v t).content 0 (len_span v)) ∙
    (ap (λ (c : RichtextChunk). shift v 0 (part_chunk c 0 (len_span v))) (merged_content v t) ∙
    (ap (shift v 0) (merged_left_lem v.content t.content (both v t e) 0 (len_span v) ∙ part_whole v.content (span_ok v k.left).form) ∙
    shift_zero v))

same_test : (a b : Bool) → (a ≡ true → b ≡ true) → (b ≡ true → a ≡ true) → a ≡ b
same_test true b f g = sym (f refl)
same_test false true f g = absurd (true≢false (sym (g refl)))
same_test false false f g = refl

joins_front : (u v t : FugueSpan) → joins_span v t ≡ true → joins_span u (merged_span v t) ≡ joins_span u v
joins_front u v t e =
    same_test (joins_span u (merged_span v t)) (joins_span u v) (left_of_merged u v t e)
    (λ h. part_to_whole u (merged_span v t) (len_span v) (merged_ok v t e) (ap (joins_span u) (front v t e) ∙ h))

-- ---- the count

-- neighbours in u and the units after it that do not join
unfoldable pub breaks : FugueSpan → List FugueSpan → ℕ
breaks u [] = 0
breaks u (v ∷ us) = cond (joins_span u v) (breaks v us) (suc (breaks v us))

unfoldable pub cuts : List FugueSpan → ℕ
cuts [] = 0
cuts (u ∷ us) = suc (breaks u us)

one_on : (u s : FugueSpan) (l : List FugueSpan) (b : Bool) → joins_span u s ≡ b → length (join_on u (s ∷ l)) ≡ cond b (suc (length l)) (suc (suc (length l)))
unfolding join_on
one_on u s l true e = ap (λ (t : Bool). length (cond t (merged_span u s ∷ l) (u ∷ (s ∷ l)))) e
one_on u s l false e = ap (λ (t : Bool). length (cond t (merged_span u s ∷ l) (u ∷ (s ∷ l)))) e

two_on : (u v : FugueSpan) (m : List FugueSpan) → length (join_on u (join_on v m)) ≡ cond (joins_span u v) (length (join_on v m)) (suc (length (join_on v m)))
unfolding join_on
two_on u v [] = one_on u v [] (joins_span u v) refl
two_on u v (t ∷ m) = go (joins_span v t) refl
  where
    go : (b : Bool) → joins_span v t ≡ b
        → length (join_on u (cond b (merged_span v t ∷ m) (v ∷ (t ∷ m)))) ≡ cond (joins_span u v) (length (cond b (merged_span v t ∷ m) (v ∷ (t ∷ m)))) (suc (length (cond b (merged_span v t ∷ m) (v ∷ (t ∷ m)))))
    go true e = one_on u (merged_span v t) m (joins_span u v) (joins_front u v t e)
    go false e = one_on u v (t ∷ m) (joins_span u v) refl

one_more : (b : Bool) (n : ℕ) → cond b (suc n) (suc (suc n)) ≡ suc (cond b n (suc n))
one_more true n = refl
one_more false n = refl

pub join-cuts : (us : List FugueSpan) → length (join us) ≡ cuts us
unfolding join cuts breaks
join-cuts [] = refl
join-cuts (u ∷ []) = unfold join_on in refl
join-cuts (u ∷ (v ∷ us)) =
    two_on u v (join us) ∙ (ap (λ (n : ℕ). cond (joins_span u v) n (suc n)) (join-cuts (v ∷ us)) ∙ one_more (joins_span u v) (breaks v us))

-- ---- in two parts, which have a unit in common

breaks_mid : (u : FugueSpan) (A : List FugueSpan) (z : FugueSpan) (B : List FugueSpan) → breaks u (A ++ z ∷ B) ≡ breaks u (A ++ z ∷ []) + breaks z B
unfolding breaks
breaks_mid u [] z B = go (joins_span u z)
  where
    go : (b : Bool) → cond b (breaks z B) (suc (breaks z B)) ≡ cond b 0 1 + breaks z B
    go true = omega arith
    go false = omega arith
breaks_mid u (v ∷ A) z B = go (joins_span u v) (breaks_mid v A z B)
  where
    go : (b : Bool) → breaks v (A ++ z ∷ B) ≡ breaks v (A ++ z ∷ []) + breaks z B
        → cond b (breaks v (A ++ z ∷ B)) (suc (breaks v (A ++ z ∷ B))) ≡ cond b (breaks v (A ++ z ∷ [])) (suc (breaks v (A ++ z ∷ []))) + breaks z B
    go true e = e
    go false e = omega arith

pub cuts_mid : (A : List FugueSpan) (z : FugueSpan) (B : List FugueSpan) → cuts (A ++ z ∷ B) + 1 ≡ cuts (A ++ z ∷ []) + cuts (z ∷ B)
unfolding cuts breaks
cuts_mid [] z B = omega arith
cuts_mid (u ∷ A) z B = let e = breaks_mid u A z B in omega (arith, e)

-- units before others become no more rows than all of them
more_breaks : (u : FugueSpan) (A B : List FugueSpan) → breaks u A ≤ breaks u (A ++ B)
unfolding breaks
more_breaks u [] B = omega arith
more_breaks u (v ∷ A) B = go (joins_span u v) (more_breaks v A B)
  where
    go : (b : Bool) → breaks v A ≤ breaks v (A ++ B) → cond b (breaks v A) (suc (breaks v A)) ≤ cond b (breaks v (A ++ B)) (suc (breaks v (A ++ B)))
    go true h = h
    go false h = omega arith

more_cuts : (A B : List FugueSpan) → cuts A ≤ cuts (A ++ B)
unfolding cuts
more_cuts [] B = omega arith
more_cuts (u ∷ A) B = let h = more_breaks u A B in omega (arith, h)

pub join_more : (A B : List FugueSpan) → length (join A) ≤ length (join (A ++ B))
join_more A B = omega (arith, join-cuts A, join-cuts (A ++ B), more_cuts A B)
