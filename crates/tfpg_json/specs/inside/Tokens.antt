-- The tokens that are written of data.
use Rattle.std.specs.Prelude.{ℕ, List, [], ◌∷◌, ◌++◌, flat_map, ◌==◌, if◌then◌else◌, Option, Some, None, codes}
use Rattle.json.specs.Token.{Token, key}
use Rattle.json.specs.Tree.{json_tokens}
use Rattle.serde_json.specs.Data.{Data}
use Rattle.serde_json.specs.Written.{outline}
use Rattle.tfpg_graph.specs.declared.kind.Lag.{Lag}
use Rattle.tfpg_json.specs.GraphData.{whole}

-- the tokens of data
abbrev pub data_tokens : Data → List Token
data_tokens value = json_tokens (outline value)

-- those of the items of a list, without its brackets
abbrev pub each_tokens : List Data → List Token
each_tokens items = flat_map data_tokens items

-- those of what is there, if it is
abbrev pub found_tokens : Option Data → List Token
found_tokens None = []
found_tokens (Some value) = data_tokens value

-- those of a member of an object
abbrev pub member_tokens : List ℕ → Data → List Token
member_tokens name value = key name ∷ data_tokens value

-- those of the members that a monitored discrepancy has: its greatest lag, and its least where that is not 0
abbrev pub lag_tokens : Option Lag → List Token
lag_tokens None = []
lag_tokens (Some lag) =
    member_tokens (codes "lag") (whole lag.most) ++ (if lag.least == 0 then [] else member_tokens (codes "least") (whole lag.least))
