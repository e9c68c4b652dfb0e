use Rattle.std.proofs.Common.{ℕ, sym, refl}
use lib.ListN.{length-replicate}
use Rattle.std.proofs.lemmas.Result.{err_from_is_err_and}
use Rattle.session.proofs.AppliedLaws.{Shown, is_shown, called_as, or_next, or_refused}
use Rattle.session.proofs.applied.apply_to_list.Goals as goal

pub slice_bounds-visible_items-end : goal.slice_bounds-visible_items-end
slice_bounds-visible_items-end c = sym (length-replicate {A = ℕ} 589824 0)

pub slice_bounds-front_items-end : goal.slice_bounds-front_items-end
slice_bounds-front_items-end c = let v = c.visible_items in (is_shown c.args.s.now v.new.out v.auto.out v.ensures).long

pub returns-in_err-m : goal.returns-in_err-m
returns-in_err-m c =
    let v = c.visible_items in
    let w = is_shown c.args.s.now v.new.out v.auto.out v.ensures in
    let p = err_from_is_err_and c.from_residual.result c.from_residual.ensures.1 in
    rw (p.1, p.2) (or_refused _ _ _ _ _ (w.refused _ c.in_err-m.was))

pub returns : goal.returns
returns c =
    let v = c.visible_items in
    let w = (is_shown c.args.s.now v.new.out v.auto.out v.ensures).done _ c.in_ok-m.was c.front_items-old.ensures in
    or_next _ _ _ _ w.0 (called_as _ refl refl refl refl refl refl w.1 c.apply_entries.ensures)
