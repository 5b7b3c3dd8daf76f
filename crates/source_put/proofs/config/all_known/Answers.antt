-- `all` asks of each what the definition asks.
use Rattle.std.proofs.Common.{◌∙◌, rules, tests}
use Rattle.std.proofs.lemmas.Iterator.{YieldsList-from_slice}
use Rattle.std.proofs.lemmas.Iterator.Search.{all_from_yields_List}
use Rattle.rules.specs.Put.{known_action}
use Rattle.source_put.proofs.Scan.{all-known}
use Rattle.source_put.proofs.config.all_known.Goals as goal

pub returns : goal.returns
returns c = all_from_yields_List known_action _ _ _ c.all.ensures.ran (YieldsList-from_slice c.args.actions cc) (λ x b q k. search (rules, tests)) ∙ all-known _
