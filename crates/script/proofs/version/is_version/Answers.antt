use Rattle.std.proofs.Common.{◌≡◌, ◌∙◌, refl, arith, rules, tests}
use Rattle.std.proofs.lemmas.Iterator.{YieldsList-from_range}
use Rattle.std.proofs.lemmas.Iterator.Search.{all_from_yields_List}
use Rattle.std.specs.List.{list_all, range_with_len}
use Rattle.script.specs.Version.{pair_of, is_id, is_version}
use Rattle.script.proofs.VersionLaws.{pairs_all}
use Rattle.script.proofs.version.is_version.Goals as goal

pub returns : goal.returns
unfolding is_version
returns c = let w = c.args.w.now in let n = c.pairs.result in
    let e : c.all.result ≡ list_all (λ k. is_id (pair_of w k)) (range_with_len 0 n) =
    all_from_yields_List (λ k. is_id (pair_of w k)) _ _ _ c.all.ensures.ran (YieldsList-from_range 0 n n refl (omega arith)) (λ x b q k. search (rules, tests)) in
    rw c.pairs.ensures at (e ∙ pairs_all w 0 n)
