-- a put that fits, one that is cut, and one past the end; two puts in a row are one
use mathlib.Core.Path.{◌≡◌, refl, sym, ap, ap₂, ◌∙◌}
use mathlib.Core.Bool.{Bool, true, false}
use mathlib.Core.List.{List, ◌++◌, append_assoc, append-nil}
use Prim.Native.Nat.{ℕ, ◌+◌, ◌-◌, ◌≤◌, ◌<◌}
use native.Mathlib.Omega.{arith}
use lib.Dec.{leb}
use borrow.Author.Tests.{le-leb, lt-leb, leb-true, leb-false}
use lib.ListN.{length, take, drop, length-append, length-drop, drop_of_length-le}
use lib.Seq.{take_all, take-length, take-take, take-append-le, take-append_seam, take-append-add, length-take-le, drop-drop}
use Rattle.words.specs.Le.{put}
use Rattle.words.proofs.Puts.{put-put, length-put}
use Rattle.text.specs.Puts.{written, placed, Puts}

module _ (at : ℕ) (w s : List ℕ) where
  pub placed_past : length s < at + length w → length s + 1 ≡ placed at w s
  unfolding placed
  placed_past h = rw (lt-leb (at + length w) (length s) h) (omega arith)

  pub placed_fits : at + length w ≤ length s → at + length w ≡ placed at w s
  unfolding placed
  placed_fits h = rw (le-leb (at + length w) (length s) h)

  pub written_whole : at + length w ≤ length s → written at w s ≡ put at w s
  unfolding written
  written_whole h = ap (λ (n : ℕ). take n (put at w s)) (sym (length-put s w at (omega arith) h)) ∙ take-length (put at w s)

  copied : at + length w ≤ length s
      → take at s ++ ((take (length w) w ++ drop (length w) (take (length s - at) (drop at s))) ++ drop (length s - at) (drop at s)) ≡ put at w s
  unfolding put
  copied h =
      rw (take-length w, take_all (length s - at) (drop at s) (rw length-drop (omega arith)), drop-drop (length w) at s, drop_of_length-le (drop at s) {i = length s - at} (rw length-drop (omega arith)), append-nil, append_assoc)

  -- w copied to the start of the part from at on
  pub written_fits : at + length w ≤ length s
      → take at s ++ ((take (length w) w ++ drop (length w) (take (length s - at) (drop at s))) ++ drop (length s - at) (drop at s)) ≡ written at w s
  written_fits h = copied h ∙ sym (written_whole h)

  pub written_past : length s < at → s ≡ written at w s
  unfolding written put
  written_past h =
      sym (ap (λ (l : List ℕ). take (length s) (l ++ w ++ drop (at + length w) s)) (take_all at s (omega arith))
      ∙ ap (take (length s)) (append_assoc s w (drop (at + length w) s))
      ∙ take-append_seam s (w ++ drop (at + length w) s))

  -- where w reaches past the end nothing of s is left behind it
  pub written_over : length s < at + length w → written at w s ≡ take (length s) (take at s ++ w)
  unfolding written put
  written_over h = ap (λ (l : List ℕ). take (length s) (take at s ++ w ++ l)) (drop_of_length-le s {i = at + length w} (omega arith)) ∙ ap (take (length s)) (append-nil (take at s ++ w))

  -- as much of w as there is room for, copied there
  pub written_cut : at ≤ length s → length s < at + length w
      → take at s ++ ((take (length s - at) (take (length s - at) w) ++ drop (length s - at) (take (length s - at) (drop at s))) ++ drop (length s - at) (drop at s)) ≡ written at w s
  written_cut h o =
      rw (take-take (length s - at) (length s - at) w le, drop_of_length-le (take (length s - at) (drop at s)) {i = length s - at} short, drop_of_length-le (drop at s) {i = length s - at} (rw length-drop le), append-nil, append-nil)
      (sym (written_over o ∙ front))
    where
      le : length s - at ≤ length s - at
      le = omega arith

      short : length (take (length s - at) (drop at s)) ≤ length s - at
      short = rw (length-take-le (length s - at) (drop at s) (rw length-drop le)) le

      long : length (take at s) ≡ at
      long = length-take-le at s h

      all : length s ≡ length (take at s) + (length s - at)
      all = rw long (omega arith)

      front : take (length s) (take at s ++ w) ≡ take at s ++ take (length s - at) w
      front = ap (λ (n : ℕ). take n (take at s ++ w)) all ∙ take-append-add (take at s) w (length s - at)

  pub length-written : length (written at w s) ≡ length s
  unfolding written put
  length-written = length-take-le (length s) (take at s ++ w ++ drop (at + length w) s) (rw (length-append, length-append, length-drop) (go (leb at (length s)) refl))
    where
      go : (q : Bool) → leb at (length s) ≡ q → length s ≤ length (take at s) + length w + (length s - (at + length w))
      go true e = let h : at ≤ length s = leb-true at (length s) e in let l : length (take at s) ≡ at = length-take-le at s h in omega arith
      go false e = let h : length s < at = leb-false at (length s) e in rw (take_all at s (omega arith)) (omega arith)

-- two puts in a row
module _ (at : ℕ) (v w s : List ℕ) where
  both : at + length (v ++ w) ≡ at + length v + length w
  both = rw length-append (omega arith)

  fitting : at + length v ≤ length s → written (at + length v) w (put at v s) ≡ written at (v ++ w) s
  unfolding written
  fitting h = ap₂ take (length-put s v at (omega arith) h) (put-put s v at (omega arith) w)

  over : length s < at + length v → written at v s ≡ written at (v ++ w) s
  over h =
      written_over at v s h
      ∙ sym (take-append-le (length s) (take at s ++ v) w long)
      ∙ ap (take (length s)) (append_assoc (take at s) v w)
      ∙ sym (written_over at (v ++ w) s (rw both (omega arith)))
    where
      long : length s ≤ length (take at s ++ v)
      long = rw length-append (go (leb at (length s)) refl)
        where
          go : (q : Bool) → leb at (length s) ≡ q → length s ≤ length (take at s) + length v
          go true e = let l : length (take at s) ≡ at = length-take-le at s (leb-true at (length s) e) in omega arith
          go false e = let g : length s < at = leb-false at (length s) e in rw (take_all at s (omega arith)) (omega arith)

  pub written-append : written (placed at v s) w (written at v s) ≡ written at (v ++ w) s
  written-append = go (leb (at + length v) (length s)) refl
    where
      go : (q : Bool) → leb (at + length v) (length s) ≡ q → written (placed at v s) w (written at v s) ≡ written at (v ++ w) s
      go true e = let h : at + length v ≤ length s = leb-true _ _ e in
          ap₂ (λ (k : ℕ) (l : List ℕ). written k w l) (sym (placed_fits at v s h)) (written_whole at v s h) ∙ fitting h
      go false e = let h : length s < at + length v = leb-false _ _ e in
          ap (λ (k : ℕ). written k w (written at v s)) (sym (placed_past at v s h))
          ∙ sym (written_past (length s + 1) w (written at v s) (rw (length-written at v s) (omega arith)))
          ∙ over h

  sized : placed (at + length v) w (written at v s) ≡ placed at (v ++ w) s
  unfolding placed
  sized = rw (length-written at v s, both)

  pub placed-append : placed (placed at v s) w (written at v s) ≡ placed at (v ++ w) s
  placed-append = go (leb (at + length v) (length s)) refl
    where
      go : (q : Bool) → leb (at + length v) (length s) ≡ q → placed (placed at v s) w (written at v s) ≡ placed at (v ++ w) s
      go true e = let h : at + length v ≤ length s = leb-true _ _ e in
          ap (λ (k : ℕ). placed k w (written at v s)) (sym (placed_fits at v s h)) ∙ sized
      go false e = let h : length s < at + length v = leb-false _ _ e in
          sym (placed_past (placed at v s) w (written at v s) (rw (length-written at v s, sym (placed_past at v s h)) (omega arith)))
          ∙ rw (length-written at v s) (placed_past at (v ++ w) s (rw both (omega arith)))

-- a put after another
pub puts_then : (at : ℕ) (v w s : List ℕ) {a b : ℕ} {s1 s2 : List ℕ} → Puts at v s a s1 → Puts a w s1 b s2 → Puts at (v ++ w) s b s2
puts_then at v w s p q = (q.0 ∙ rw (p.0, p.1) (placed-append at v w s), q.1 ∙ rw (p.0, p.1) (written-append at v w s))

-- two puts in a row as one, for the tactics
pub ruleset puts = (placed-append, written-append)

-- the same of a slice copied to the part from at on
module _ (at : ℕ) (w s : List ℕ) where
  pub part_fits : at + length w ≤ length s → take at s ++ (w ++ drop (at + length w - at) (drop at s)) ≡ written at w s
  unfolding put
  part_fits h =
      let e : at + length w - at ≡ length w = omega arith in
      ap (λ (n : ℕ). take at s ++ (w ++ drop n (drop at s))) e
      ∙ ap (λ (l : List ℕ). take at s ++ (w ++ l)) (drop-drop (length w) at s)
      ∙ sym (append_assoc (take at s) w (drop (at + length w) s))
      ∙ sym (written_whole at w s h)

  pub part_cut : at ≤ length s → length s < at + length w
      → take at s ++ (take (length s - at) w ++ drop (length s - at) (drop at s)) ≡ written at w s
  part_cut h o = ap (λ (l : List ℕ). take at s ++ (l ++ drop (length s - at) (drop at s))) (sym inner) ∙ written_cut at w s h o
    where
      le : length s - at ≤ length s - at
      le = omega arith

      short : length (take (length s - at) (drop at s)) ≤ length s - at
      short = rw (length-take-le (length s - at) (drop at s) (rw length-drop le)) le

      inner : take (length s - at) (take (length s - at) w) ++ drop (length s - at) (take (length s - at) (drop at s)) ≡ take (length s - at) w
      inner = rw (take-take (length s - at) (length s - at) w le, drop_of_length-le (take (length s - at) (drop at s)) {i = length s - at} short, append-nil)

-- one put, as it is made
pub ruleset copies = (placed_past, placed_fits, written_past, part_fits, part_cut)
