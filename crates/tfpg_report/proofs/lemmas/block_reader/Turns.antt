-- What may come at a stand where something else may come.
use Rattle.std.proofs.Common.{◌≡◌, true, refl}
use Rattle.tfpg_report.specs.declared.stand.Stand.{Stand}
use Rattle.tfpg_report.specs.declared.stand.Stand.TheVariants as stand
use Rattle.tfpg_report.specs.Stands.{may_begin_steps, may_rank, may_open, may_reject}

-- Where a part may come, a ranked hypothesis may come too.
pub steps_or_rank : (before : Stand) → may_begin_steps before ≡ true → may_rank before ≡ true
steps_or_rank stand.Nothing may = cc
steps_or_rank stand.Block may = cc
steps_or_rank stand.Round may = refl
steps_or_rank stand.Hyp may = cc
steps_or_rank (stand.Reasons owed) may = cc
steps_or_rank stand.Step may = refl
steps_or_rank (stand.Ranked last) may = cc
steps_or_rank stand.Open may = cc
steps_or_rank stand.Rejected may = cc
steps_or_rank (stand.Counts last) may = cc

-- Where a ranked hypothesis may come, an open one may come too.
pub rank_or_open : (before : Stand) → may_rank before ≡ true → may_open before ≡ true
rank_or_open stand.Nothing may = may
rank_or_open stand.Block may = may
rank_or_open stand.Round may = may
rank_or_open stand.Hyp may = may
rank_or_open (stand.Reasons owed) may = may
rank_or_open stand.Step may = may
rank_or_open (stand.Ranked last) may = may
rank_or_open stand.Open may = refl
rank_or_open stand.Rejected may = may
rank_or_open (stand.Counts last) may = may

-- Where an open hypothesis may come, a rejected one may come too.
pub open_or_reject : (before : Stand) → may_open before ≡ true → may_reject before ≡ true
open_or_reject stand.Nothing may = may
open_or_reject stand.Block may = may
open_or_reject stand.Round may = may
open_or_reject stand.Hyp may = may
open_or_reject (stand.Reasons owed) may = may
open_or_reject stand.Step may = may
open_or_reject (stand.Ranked last) may = may
open_or_reject stand.Open may = may
open_or_reject stand.Rejected may = refl
open_or_reject (stand.Counts last) may = may

-- Where a part may come, a rejected hypothesis may come too.
pub steps_or_reject : (before : Stand) → may_begin_steps before ≡ true → may_reject before ≡ true
steps_or_reject before may = open_or_reject before (rank_or_open before (steps_or_rank before may))
