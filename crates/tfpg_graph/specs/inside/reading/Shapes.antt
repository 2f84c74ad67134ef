-- What the words of a line after the header say, keyword by keyword, as the code tests them.
use Rattle.std.specs.Prelude.{ℕ, List, [], ◌∷◌, if◌then◌else◌, Option, Some, None, option_map, codes, bytes_eq}
use Rattle.tfpg_graph.specs.declared.version.Version.{Version}
use Rattle.tfpg_graph.specs.declared.version.Version.TheVariants.{One, Two}
use Rattle.tfpg_graph.specs.Statements.{LagWords, NodeWords, FailureWords, OrWords, AndWords, Statement, DeclaresMode, DeclaresNode, DeclaresEdge, Ends}

-- what the words after `watch` say: in version 1 the greatest lag alone, and then the least is 0
abbrev pub watched_in : Version → List (List ℕ) → Option (Option LagWords)
watched_in One (most ∷ []) = Some (Some (record { least = codes "0"; most = most }))
watched_in Two (least ∷ most ∷ []) = Some (Some (record { least = least; most = most }))
watched_in _ _ = None

-- what the words after `hidden` say
abbrev pub hidden_in : List (List ℕ) → Option (Option LagWords)
hidden_in [] = Some None
hidden_in _ = None

-- what a discrepancy's last words say: `hidden`, or `watch` and the words for its lag
abbrev pub lag_by_state : Version → List (List ℕ) → Option (Option LagWords)
lag_by_state version [] = None
lag_by_state version (state ∷ others) =
    if bytes_eq state (codes "hidden") then hidden_in others
    else (if bytes_eq state (codes "watch") then watched_in version others else None)

-- what the words after `mode` say
abbrev pub mode_in : List (List ℕ) → Option Statement
mode_in (name ∷ []) = Some (DeclaresMode name)
mode_in _ = None

-- what the words after `failure` say
abbrev pub failure_in : List (List ℕ) → Option Statement
failure_in (name ∷ rarity ∷ []) = Some (DeclaresNode name (FailureWords rarity))
failure_in _ = None

-- what the words after `or` say, where `with_lag` is `OrWords`, and those after `and`, where it is `AndWords`
abbrev pub discrepancy_in : Version → (Option LagWords → NodeWords) → List (List ℕ) → Option Statement
discrepancy_in version with_lag [] = None
discrepancy_in version with_lag (name ∷ others) = option_map (λ lag. DeclaresNode name (with_lag lag)) (lag_by_state version others)

-- what the words after `edge` say
abbrev pub edge_in : List (List ℕ) → Option Statement
edge_in (source ∷ target ∷ tmin ∷ tmax ∷ modes ∷ []) = Some (DeclaresEdge source target tmin tmax modes)
edge_in _ = None

-- what the words after `end` say
abbrev pub end_in : List (List ℕ) → Option Statement
end_in [] = Some Ends
end_in _ = None

-- what the words of a line after the header say, where they have one of the shapes: a keyword, and the words after it
abbrev pub statement_by_keyword : Version → List (List ℕ) → Option Statement
statement_by_keyword version [] = None
statement_by_keyword version (keyword ∷ others) =
    if bytes_eq keyword (codes "mode") then mode_in others
    else (if bytes_eq keyword (codes "failure") then failure_in others
    else (if bytes_eq keyword (codes "or") then discrepancy_in version OrWords others
    else (if bytes_eq keyword (codes "and") then discrepancy_in version AndWords others
    else (if bytes_eq keyword (codes "edge") then edge_in others
    else (if bytes_eq keyword (codes "end") then end_in others else None)))))
