use Rattle.tfpg_run.proofs.lemmas.Refused.{fetched_one}
use Rattle.tfpg_run.proofs.fetching.fetch_file.Goals as goal

pub returns-clause-fetched : goal.returns-clause-fetched
returns-clause-fetched g c =
    fetched_one (g.F.Shelf.state c.args.shelf.now) (g.F.Shelf.state c.fetch.new.self) c.args.name.now c.fetch.new.into.items
    (record { gives = c.in_ok-fetch.ensures.given; small = c.in_ok-fetch.ensures.small }) c.in_ok-fetch.ensures.counted c.in_ok-fetch.ensures.asks
