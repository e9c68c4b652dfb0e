-- A valid history, whoever made it, stays valid at every checkout and delta, and its delete counts are within i16; a version of it has at most 16 pairs.
use Prim.Native.Nat.{ℕ, suc, ◌≤◌}
use mathlib.Core.Path.{◌≡◌, refl, sym, ap, ◌∙◌}
use mathlib.Core.Bool.{Bool, true, false, ◌&&◌, cond}
use mathlib.Core.List.{List, [], ◌∷◌}
use native.Mathlib.Omega.{arith}
use lib.Dec.{eqb}
use lib.ListN.{length}
use borrow.Author.Tests.{eqb-true, lt-ltb}
use Rattle.span.specs.declared.ids.Id.{Id}
use Rattle.span.specs.declared.span.FugueSpan.{FugueSpan}
use Rattle.span.specs.Status.{in_i16}
use Rattle.span.specs.Units.{expand, join}
use Rattle.span.proofs.Unique.{expand-join}
use Rattle.units.specs.Limits.{EDITS}
use Rattle.units.specs.Lists.{every}
use Rattle.units.specs.declared.diff.Entry.{Entry}
use Rattle.rope.proofs.Keeps.{UnitsOk, join_formed}
use Rattle.history.specs.Edit.{Version, Held, History}
use Rattle.history.specs.Version.{below, named}
use Rattle.history.specs.Checkout.{in_ranges, deletes_in, status_at, units_at, checkout}
use Rattle.history.specs.Valid.{edits_fit, made_units, same_units, targets_fit, target_list, valid}
use Rattle.history.specs.Codes.{on_units, stored, checkout_code, checkout_of, delta_code, delta_of}
use Rattle.history.proofs.Run.{MemH}
use Rattle.history.proofs.WellUnits.{of_all}
use Rattle.history.proofs.Valid.{every_of}
use Rattle.history.proofs.Codes.{every_in}
use Rattle.history.proofs.Rooms.{checkout_room, delta_room}
use Rattle.history.proofs.Pairs.{pairs_most}
use Rattle.history.proofs.Sound.{Sound, sound_of, of_sound}
use Rattle.history.proofs.Likes.{likes_units, likes_targets, likes_at}
use Rattle.history.proofs.Arriving.{list_ok, at_ok}

-- a history on units that is well formed is valid as stored
pub stored-valid : (spans targets : ℕ) (h : History) → UnitsOk h.list → length (join h.list) ≤ spans → length (target_list h.held) ≤ targets → length h.held ≤ EDITS → edits_fit [] h.held ≡ true
    → same_units h.list (made_units h) ≡ true → ((x : Held) → MemH x h.held → targets_fit h.list x ≡ true) → valid spans targets (stored h) ≡ true
unfolding stored
stored-valid spans targets h ok room ranges edits fit units took = of_sound spans targets (stored h) (record {
  room = room;
  ranges = ranges;
  edits = edits;
  formed = join_formed h.list ok;
  fit = fit;
  units = ap (λ (z : List FugueSpan). same_units z (made_units h)) back ∙ units;
  took = ap (λ (z : List FugueSpan). every (targets_fit z) h.held) back ∙ every_of (targets_fit h.list) h.held took;
})
  where
    back : expand (join h.list) ≡ h.list
    back = expand-join h.list ok.each

-- what a call leaves, or what was there
pub kept_valid : (spans targets code : ℕ) (new old : History) → (code ≡ 0 → valid spans targets new ≡ true) → valid spans targets old ≡ true → valid spans targets (cond (eqb code 0) new old) ≡ true
kept_valid spans targets code new old f ok = go (eqb code 0) refl
  where
    go : (b : Bool) → eqb code 0 ≡ b → valid spans targets (cond b new old) ≡ true
    go true q = f (eqb-true code 0 q)
    go false q = ok

module _ (spans targets : ℕ) (h : History) (ok : valid spans targets h ≡ true) where
  sound : Sound spans targets h
  sound = sound_of spans targets h ok

  -- at a version for which there is room
  pub at_valid : (v : Version) → length (join (units_at v (on_units h))) ≤ spans → valid spans targets (stored (checkout v (on_units h))) ≡ true
  unfolding checkout on_units
  at_valid v room = stored-valid spans targets (checkout v (on_units h)) (at_ok spans targets h ok v) room sound.ranges sound.edits sound.fit
      (sym (likes_units (expand h.list) (units_at v (on_units h)) (made_units h) (likes_at v (on_units h))) ∙ sound.units)
      (λ (x : Held) (m : MemH x h.held). sym (likes_targets (expand h.list) (units_at v (on_units h)) (likes_at v (on_units h)) x) ∙ every_in (targets_fit (expand h.list)) h.held sound.took x m)

  pub valid_checkout : (v : Version) → valid spans targets (checkout_of spans targets h v).1 ≡ true
  unfolding checkout_of
  valid_checkout v = kept_valid spans targets (checkout_code spans targets h v) (stored (checkout v (on_units h))) h (λ (e : checkout_code spans targets h v ≡ 0). at_valid v (checkout_room spans targets h (on_units h) v refl e)) ok

  pub valid_delta : (out : List Entry) (a b : Version) → valid spans targets (delta_of spans targets out h a b).1 ≡ true
  unfolding delta_of
  valid_delta out a b = kept_valid spans targets (delta_code spans targets out h a b) (stored (checkout a (on_units h))) h
      (λ (e : delta_code spans targets out h a b ≡ 0). at_valid a (delta_room spans targets out h (on_units h) a b refl (unfold on_units in of_all (expand h.list) (list_ok spans targets h ok).each) e)) ok

  -- a version that is named has at most 16 pairs
  pub pairs_any : (v : Version) → named h.held v ≡ true → length v ≤ 16
  pairs_any v e = pairs_most h.held v sound.fit e

  -- ---- delete counts

  few_deletes : (v : Version) (l : List Held) (i : Id) → deletes_in v l i ≤ length l
  unfolding deletes_in
  few_deletes v [] i = omega arith
  few_deletes v (x ∷ l) i = go (below v x.edit.id && in_ranges i x.took) (few_deletes v l i)
    where
      go : (b : Bool) → deletes_in v l i ≤ length l → cond b (suc (deletes_in v l i)) (deletes_in v l i) ≤ suc (length l)
      go true k = omega arith
      go false k = omega arith

  pub deletes_few : (v : Version) (i : Id) → deletes_in v h.held i ≤ 2000
  deletes_few v i = omega (arith, few_deletes v h.held i, sound.edits)

  pub counts_any : (v : Version) (i : Id) → in_i16 (status_at v h.held i).delete_times ≡ true
  unfolding in_i16 status_at
  counts_any v i = lt-ltb (deletes_in v h.held i) 32768 (omega (arith, deletes_few v i))
