-- All that is known of `put`: bytes put one after the other, how long a list is after a put, and what is read back. Assumes nothing.
use mathlib.Core.Path.{◌≡◌, refl, sym, ap, ◌∙◌}
use mathlib.Core.List.{List, [], ◌∷◌, ◌++◌, append_assoc, append-nil}
use Prim.Native.Nat.{ℕ, zero, suc, ◌+◌, ◌-◌, ◌*◌, ◌/◌, ◌^◌, ◌≤◌, ◌<◌}
use native.Mathlib.Omega.{arith}
use native.Mathlib.Nat.{pow-suc, add-zero}
use lib.ListN.{length, take, drop, set, get_or, get_or-append, length-append, length-drop, take-append-drop}
use lib.Seq.{take-suc, drop-cons, set_at, get_or-take, get_or-drop, get_or-append-add, take-append-le, drop-append-le, length-take-le, take_at, drop_at, drop-drop}
use Rattle.words.specs.Le.{le, bytes_of, put}

pub length_bytes : (k v : ℕ) → length (bytes_of k v) ≡ k
unfolding bytes_of
length_bytes zero v = refl
length_bytes (suc k) v = ap suc (length_bytes k (v / 256))

-- the bytes of a number say it
pub le_bytes : (k v : ℕ) → v < 256 ^ k → le (bytes_of k v) ≡ v
unfolding le bytes_of
le_bytes zero v h = omega arith
le_bytes (suc k) v h =
    let h1 : v < 256 ^ k * 256 = rw pow-suc at h in
    let r : le (bytes_of k (v / 256)) ≡ v / 256 = le_bytes k (v / 256) (omega arith) in
    omega arith

module _ (s bs : List ℕ) (at : ℕ) (fits : at ≤ length s) where
  head : length (take at s ++ bs) ≡ at + length bs
  head = length-append (take at s) bs ∙ ap (λ (k : ℕ). k + length bs) (length-take-le at s fits)

  pub drop-put : drop (at + length bs) (put at bs s) ≡ drop (at + length bs) s
  unfolding put
  drop-put = drop_at (take at s ++ bs) (drop (at + length bs) s) (at + length bs) head

  past : (m : ℕ) → drop (at + length bs + m) (put at bs s) ≡ drop (at + length bs + m) s
  past m = sym (drop-drop m (at + length bs) (put at bs s)) ∙ ap (drop m) drop-put ∙ drop-drop m (at + length bs) s

  pub put-put : (cs : List ℕ) → put (at + length bs) cs (put at bs s) ≡ put at (bs ++ cs) s
  unfolding put
  put-put cs =
      ap (λ (l : List ℕ). l ++ cs ++ drop (at + length bs + length cs) (put at bs s)) (take_at (take at s ++ bs) (drop (at + length bs) s) (at + length bs) head)
      ∙ ap (λ (l : List ℕ). take at s ++ bs ++ cs ++ l) (past (length cs))
      ∙ ap (λ (l : List ℕ). l ++ drop (at + length bs + length cs) s) (append_assoc (take at s) bs cs)
      ∙ ap (λ (k : ℕ). take at s ++ (bs ++ cs) ++ drop k s) ends
    where
      ends : at + length bs + length cs ≡ at + length (bs ++ cs)
      ends = rw length-append (omega arith)

  pub length-put : at + length bs ≤ length s → length (put at bs s) ≡ length s
  unfolding put
  length-put h = length-append (take at s ++ bs) (drop (at + length bs) s) ∙ rw (head, length-drop) (omega arith)

-- the same, as the code leaves it: s1 after the first put, s2 after the second, at a place that is known by an equation
pub next : (s bs cs : List ℕ) (at at2 : ℕ) {s1 s2 : List ℕ} → at ≤ length s → s1 ≡ put at bs s → s2 ≡ put at2 cs s1 → at2 ≡ at + length bs → s2 ≡ put at (bs ++ cs) s
next s bs cs at at2 h e1 e2 p = e2 ∙ rw (p, e1) (put-put s bs at h cs)

-- a part that ends before the put, or starts after it, is as it was
pub part_before : (s bs : List ℕ) (b at m : ℕ) → b ≤ length s → at + m ≤ b → take m (drop at (put b bs s)) ≡ take m (drop at s)
unfolding put
part_before s bs b at m h k = rw (append_assoc (take b s) bs) (front (bs ++ drop (b + length bs) s) ∙ sym (front (drop b s)) ∙ ap (λ (l : List ℕ). take m (drop at l)) (take-append-drop b s))
  where
    long : length (take b s) ≡ b
    long = length-take-le b s h

    front : (q : List ℕ) → take m (drop at (take b s ++ q)) ≡ take m (drop at (take b s))
    front q =
        rw (drop-append-le at (take b s) q (omega (arith, long)))
        (take-append-le m (drop at (take b s)) q (rw length-drop (omega (arith, long))))

pub part_after : (s bs : List ℕ) (b at m : ℕ) → b ≤ length s → b + length bs ≤ at → take m (drop at (put b bs s)) ≡ take m (drop at s)
part_after s bs b at m h k =
    let e : at ≡ b + length bs + (at - (b + length bs)) = omega arith in
    ap (λ (l : List ℕ). take m l) (ap (λ (n : ℕ). drop n (put b bs s)) e ∙ past s bs b h (at - (b + length bs)) ∙ ap (λ (n : ℕ). drop n s) (sym e))

-- ---- a put that grows by one byte at its front, as a loop that goes down makes it

pub put-nil : (s : List ℕ) (p : ℕ) → put p [] s ≡ s
unfolding put
put-nil s p = rw (append-nil, add-zero) (take-append-drop p s)

pub set-put : (s bs : List ℕ) (q x : ℕ) → q < length s → set (put (suc q) bs s) q x ≡ put q (x ∷ bs) s
unfolding put
set-put s bs q x h =
    rw (take-suc s q 0 h, append_assoc, append_assoc, append_assoc)
    (set_at (take q s) (get_or s q 0) (bs ++ drop (suc q + length bs) s) x q (length-take-le q s (omega arith))
    ∙ ap (λ (n : ℕ). take q s ++ x ∷ (bs ++ drop n s)) (omega_eq q (length bs)))
  where
    omega_eq : (q l : ℕ) → suc q + l ≡ q + suc l
    omega_eq q l = omega arith

pub get_or-put : (s bs : List ℕ) (p j : ℕ) → j < p → p ≤ length s → get_or (put p bs s) j 0 ≡ get_or s j 0
unfolding put
get_or-put s bs p j h k =
    rw append_assoc (get_or-append (take p s) (bs ++ drop (p + length bs) s) 0 j (rw (length-take-le p s k) h)) ∙ get_or-take p s j 0 h

-- ---- a put that grows by one byte at its end, as a loop that goes up makes it

pub set-put_end : (s bs : List ℕ) (a x : ℕ) → a + length bs < length s → set (put a bs s) (a + length bs) x ≡ put a (bs ++ (x ∷ [])) s
unfolding put
set-put_end s bs a x h =
    rw (drop-cons s (a + length bs) 0 h)
    (set_at (take a s ++ bs) (get_or s (a + length bs) 0) (drop (suc (a + length bs)) s) x (a + length bs) (head s bs a (omega arith))
    ∙ rw (length-append bs (x ∷ []), sym (append_assoc (take a s) bs (x ∷ [])), append_assoc (take a s ++ bs) (x ∷ []))
    (ap (λ (n : ℕ). (take a s ++ bs) ++ (x ∷ drop n s)) (let e : suc (a + length bs) ≡ a + (length bs + 1) = omega arith in e)))

pub get_or-put_after : (s bs : List ℕ) (a j : ℕ) → a ≤ length s → a + length bs ≤ j → get_or (put a bs s) j 0 ≡ get_or s j 0
unfolding put
get_or-put_after s bs a j h k =
    let l = head s bs a h in
    let e : length (take a s ++ bs) + (j - (a + length bs)) ≡ j = omega arith in
    let f : a + length bs + (j - (a + length bs)) ≡ j = omega arith in
    ap (λ (i : ℕ). get_or (put a bs s) i 0) (sym e)
    ∙ get_or-append-add (take a s ++ bs) (drop (a + length bs) s) (j - (a + length bs)) 0
    ∙ get_or-drop (a + length bs) s (j - (a + length bs)) 0
    ∙ ap (λ (i : ℕ). get_or s i 0) f

-- ---- a part of what was put

pub part_front : (p q : List ℕ) (at m : ℕ) → at + m ≤ length p → take m (drop at (p ++ q)) ≡ take m (drop at p)
part_front p q at m h = rw (drop-append-le at p q (omega arith)) (take-append-le m (drop at p) q (rw length-drop (omega arith)))

pub part_inside : (s bs : List ℕ) (p k m : ℕ) → p ≤ length s → k + m ≤ length bs → take m (drop (p + k) (put p bs s)) ≡ take m (drop k bs)
unfolding put
part_inside s bs p k m h l =
    rw (sym (drop-drop k p (put p bs s)), append_assoc (take p s) bs, drop_at (take p s) (bs ++ drop (p + length bs) s) p (length-take-le p s h))
    (part_front bs (drop (p + length bs) s) k m l)

-- a part of a part
pub part_part : (s : List ℕ) (a n k m : ℕ) → a + n ≤ length s → k + m ≤ n → take m (drop k (take n (drop a s))) ≡ take m (drop (a + k) s)
part_part s a n k m h l =
    sym (part_front (take n (drop a s)) (drop n (drop a s)) k m (omega (arith, length-take-le n (drop a s) room)))
    ∙ rw (take-append-drop n (drop a s), drop-drop k a s)
  where
    room : n ≤ length (drop a s)
    room = rw length-drop (omega arith)
