-- The version in which a graph is written, and what a version can spell.
use Rattle.std.proofs.Common.{◌≡◌, ℕ, ◌+◌, ◌<◌, ◌≤◌, ◌&&◌, Bool, true, false, cond, List, length, take, get_or, All, IsTrue, IfSome, Some, None, slice_get, refl, sym, ap, ◌∙◌}
use Rattle.std.specs.List.{list_all}
use Rattle.std.proofs.lemmas.Bool.{eqb-true, eq-eqb}
use Rattle.std.proofs.lemmas.List.{take_all}
use Rattle.std.proofs.lemmas.List.Folds.{list_all_at, list_all_more}
use Rattle.std.proofs.lemmas.List.Sums.{AllPass-from_list_all, list_all-from_AllPass}
use Rattle.std.proofs.lemmas.Option.{slice_get_within, get_or_from_slice_get}
use Rattle.tfpg_base.proofs.lemmas.lists.Choices.{option_map-some}
use Rattle.tfpg_graph.specs.declared.kind.Kind.{Kind}
use Rattle.tfpg_graph.specs.declared.kind.Kind.TheVariants.{Failure, Or, And}
use Rattle.tfpg_graph.specs.declared.kind.Lag.{Lag}
use Rattle.tfpg_graph.specs.declared.version.Version.{Version}
use Rattle.tfpg_graph.specs.declared.version.Version.TheVariants.{One, Two}
use Rattle.tfpg_graph.specs.Graph.{Tfpg, Node, kind_at, lag_of, has_zero_least}
use Rattle.tfpg_graph.specs.Text.{version_for}

-- A version can spell a lag: version 1 has no word for the least, which is 0 there.
abbrev pub CanSpellLag : Version → Lag → Type 0
CanSpellLag One lag = lag.least ≡ 0
CanSpellLag Two lag = Unit {0}

-- A version can spell what a node is: it can spell the lag.
abbrev pub CanSpell : Version → Kind → Type 0
CanSpell version kind = IfSome (lag_of kind) (CanSpellLag version)

-- version 1 can spell a kind whose least lag is 0
can_spell-zero : (kind : Kind) → IsTrue (has_zero_least kind) → CanSpell One kind
can_spell-zero (Failure rarity) zero = tt
can_spell-zero (Or None) zero = tt
can_spell-zero (Or (Some lag)) zero = eqb-true lag.least 0 zero
can_spell-zero (And None) zero = tt
can_spell-zero (And (Some lag)) zero = eqb-true lag.least 0 zero

-- and none else
zero_least : (kind : Kind) → CanSpell One kind → IsTrue (has_zero_least kind)
zero_least (Failure rarity) can = refl
zero_least (Or None) can = refl
zero_least (Or (Some lag)) can = eq-eqb lag.least 0 can
zero_least (And None) can = refl
zero_least (And (Some lag)) can = eq-eqb lag.least 0 can

-- and version 2 can spell each
can_spell-two : (kind : Kind) → CanSpell Two kind
can_spell-two (Failure rarity) = tt
can_spell-two (Or None) = tt
can_spell-two (Or (Some lag)) = tt
can_spell-two (And None) = tt
can_spell-two (And (Some lag)) = tt

-- A version can spell each of the nodes where, if it is version 1, their least lags are 0.
pub can_spell_each : (version : Version) (nodes : List Node) → (version ≡ One → All (λ node. IsTrue (has_zero_least node.kind)) nodes)
    → All (λ node. CanSpell version node.kind) nodes
can_spell_each One nodes zero = λ k d within. can_spell-zero (get_or nodes k d).kind (zero refl k d within)
can_spell_each Two nodes zero = λ k d within. can_spell-two (get_or nodes k d).kind

-- and back
pub zero_least_in_one : (version : Version) (nodes : List Node) → All (λ node. CanSpell version node.kind) nodes
    → version ≡ One → All (λ node. IsTrue (has_zero_least node.kind)) nodes
zero_least_in_one One nodes can is = λ k d within. zero_least (get_or nodes k d).kind (can k d within)
zero_least_in_one Two nodes can is = absurd cc

-- where the canonical text is of version 1, each least lag is 0
pub zero_least_for : (graph : Tfpg) → version_for graph ≡ One → All (λ node. IsTrue (has_zero_least node.kind)) graph.nodes
zero_least_for graph = by (list_all (λ node. has_zero_least node.kind) graph.nodes) refl
  where
    by : (zero : Bool) → list_all (λ node. has_zero_least node.kind) graph.nodes ≡ zero → cond zero One Two ≡ One
        → All (λ node. IsTrue (has_zero_least node.kind)) graph.nodes
    by true zero is = AllPass-from_list_all (λ node. has_zero_least node.kind) graph.nodes zero
    by false other is = absurd cc

-- Where each least lag is 0, the canonical text is of version 1.
pub version_for-zero : (graph : Tfpg) → All (λ node. IsTrue (has_zero_least node.kind)) graph.nodes → version_for graph ≡ One
version_for-zero graph zero = ap (λ b. cond b One Two) (list_all-from_AllPass (λ node. has_zero_least node.kind) graph.nodes zero)

-- ---- the nodes one after the other

-- the least lag of each node before this number is 0
abbrev pub is_zero_before : Tfpg → ℕ → Bool
is_zero_before graph end = list_all (λ node. has_zero_least node.kind) (take end graph.nodes)

module _ (graph : Tfpg) (number : ℕ) (kind : Kind) (is : kind_at graph number ≡ Some kind) where
  the_node : (node : Node) × (slice_get graph.nodes number ≡ Some node) × (node.kind ≡ kind)
  the_node = option_map-some (λ (node : Node). node.kind) (slice_get graph.nodes number) kind is

  within : number < length graph.nodes
  within = slice_get_within graph.nodes number the_node.0 the_node.1

  same_least : has_zero_least (get_or graph.nodes number the_node.0).kind ≡ has_zero_least kind
  same_least = ap (λ node. has_zero_least node.kind) (get_or_from_slice_get graph.nodes number the_node.0 the_node.0 the_node.1) ∙ ap has_zero_least the_node.2

  -- A node with a least lag needs version 2.
  pub version_for-least : has_zero_least kind ≡ false → version_for graph ≡ Two
  version_for-least least = ap (λ b. cond b One Two) (list_all_at (λ node. has_zero_least node.kind) graph.nodes number the_node.0 within (same_least ∙ least))

  -- And one without leaves it as it was.
  pub is_zero_before-more : is_zero_before graph number ≡ true → has_zero_least kind ≡ true → is_zero_before graph (number + 1) ≡ true
  is_zero_before-more before zero =
      list_all_more (λ node. has_zero_least node.kind) graph.nodes number the_node.0 within ∙ (λ i. before i && (same_least ∙ zero) i)

-- Where the least lag of each node is 0, version 1 serves.
pub version_for-before : (graph : Tfpg) (end : ℕ) → length graph.nodes ≤ end → is_zero_before graph end ≡ true → version_for graph ≡ One
version_for-before graph end all zero =
    ap (λ b. cond b One Two) (ap (list_all (λ node. has_zero_least node.kind)) (sym (take_all end graph.nodes all)) ∙ zero)
