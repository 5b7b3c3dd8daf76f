-- `find` gives the entry at the place that the definition finds.
use Rattle.std.proofs.Common.{◌≡◌, length, take, ◌∙◌, rules, tests}
use Rattle.std.proofs.lemmas.Iterator.{YieldsList-from_slice}
use Rattle.std.proofs.lemmas.Iterator.Search.{find_from_yields_List}
use Rattle.basis.proofs.Lists.{take_min}
use Rattle.rules.specs.Put.{is_found, entry_of, entries}
use Rattle.source_put.proofs.Scan.{has, found}
use Rattle.source_put.proofs.config.entry_found.Goals as goal

pub returns : goal.returns
unfolding is_found entry_of entries
returns c =
    let a = c.args in
    let r = a.c.remotes in
    let m : length r ≡ 8 = search rules in
    let e : c.iter.result.rest.now ≡ take a.c.count r = rw (c.iter.ensures.rest, c.min-n.ensures) (take_min r a.c.count 8 m) in
    c.copied.ensures
    ∙ find_from_yields_List (has a.v) _ _ c.find.result c.find.ensures.ran (YieldsList-from_slice (take a.c.count r) e) (λ x b q k. search (rules, tests))
    ∙ found _ _ _
