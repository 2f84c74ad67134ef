-- The reasons of the demands of a leaf, by what is kept of them.
use Rattle.std.specs.Prelude.{◌≡◌, ◌⊎◌, ℕ, ◌+◌, ◌-◌, ◌<◌, List, [], ◌∷◌, ◌++◌, length, slice_index_or, nat_eq, if◌then◌else◌}
use Rattle.tfpg_evidence.specs.declared.reason.Reason.{Reason}
use Rattle.tfpg_evidence.specs.declared.reason.Reason.TheVariants as reason
use Rattle.tfpg_diff.specs.declared.why.Why.{Why}
use Rattle.tfpg_diff.specs.declared.why.Why.TheVariants.{Floor, Ceiling, Given}
use Rattle.tfpg_diff.specs.VariableBounds.{VariableBounds}
use Rattle.tfpg_diff.specs.Demands.{Demands}
use Rattle.tfpg_search.specs.declared.kept_reason.LowReason.{LowReason}
use Rattle.tfpg_search.specs.declared.kept_reason.LowReason.TheVariants.{Zero, Unreached, From, Quiet}
use Rattle.tfpg_search.specs.declared.kept_reason.HighReason.{HighReason}
use Rattle.tfpg_search.specs.declared.kept_reason.HighReason.TheVariants.{Top, Upto}
use Rattle.tfpg_search.specs.inside.EnteredPicks.{entered_picks, AreBegun}
use Rattle.tfpg_search.specs.inside.Tags.{IsTagged}

-- the reason of this lower bound of the node
abbrev pub low_reason : ℕ → ℕ → LowReason → Reason
low_reason node bound Zero = reason.Zero node
low_reason node bound Unreached = reason.Unreached node (bound - 1)
low_reason node bound (From event) = reason.From event
low_reason node bound (Quiet event) = reason.Quiet event node

-- the reason of the upper bound of the node
abbrev pub high_reason : ℕ → HighReason → Reason
high_reason node Top = reason.Top node
high_reason node (Upto event) = reason.Upto event

-- the reasons of the lower bounds of the nodes, the first of which has this number
abbrev pub low_reasons : ℕ → List VariableBounds → List LowReason → List Reason
low_reasons node [] lows = []
low_reasons node (bounds ∷ others) [] = []
low_reasons node (bounds ∷ others) (low ∷ lows) = low_reason node bounds.floor low ∷ low_reasons (node + 1) others lows

-- and those of their upper bounds
abbrev pub high_reasons : ℕ → List HighReason → List Reason
high_reasons node [] = []
high_reasons node (high ∷ highs) = high_reason node high ∷ high_reasons (node + 1) highs

-- all reasons, in the order of their tags: those of the lower bounds, of the upper bounds, and of the picks
abbrev pub reasons_of : List VariableBounds → List LowReason → List HighReason → List Reason → List Reason
reasons_of bounds lows highs picks = low_reasons 0 bounds lows ++ (high_reasons 0 highs ++ picks)

-- the same, where so many picks stand before each alternative that is entered
abbrev pub kept_reasons : Demands → List LowReason → List HighReason → List ℕ → List Reason
kept_reasons demands lows highs entered = reasons_of demands.bounds lows highs (entered_picks entered (length demands.picks))

-- Something is kept for each bound of each node and for each alternative, and each tag is the index of its reason.
pub record AreKept (demands : Demands) (lows : List LowReason) (highs : List HighReason) (entered : List ℕ) : Type 0 where
  pub lows_each : length lows ≡ length demands.bounds
  pub highs_each : length highs ≡ length demands.bounds
  pub begun : AreBegun entered (length demands.picks)
  pub tagged : IsTagged demands (kept_reasons demands lows highs entered)

-- The tag is the index of one of these reasons, or that of what was to be added; or it names a bound that no reason set.
abbrev pub IsNamed : List Reason → ℕ → Why → Type 0
IsNamed reasons added (Floor node) = Unit {0}
IsNamed reasons added (Ceiling node) = Unit {0}
IsNamed reasons added (Given tag) = (tag ≡ added) ⊎ (tag < length reasons)

-- the reason of a tag, where this one is that of what was to be added
abbrev pub reason_or : List Reason → ℕ → Reason → Why → Reason
reason_or reasons added adding (Floor node) = reason.Zero node
reason_or reasons added adding (Ceiling node) = reason.Top node
reason_or reasons added adding (Given tag) = if nat_eq tag added then adding else slice_index_or reasons tag (reason.Zero 0)
