-- The bits of modes that are named once each.
use Rattle.std.proofs.Common.{◌≡◌, ◌≢◌, ℕ, ◌+◌, ◌<◌, ◌^◌, ◌==◌, length, codes, false, ⊎_elim, List, [], ◌∷◌, filter_map, Option, Some, None, slice_get, All, Contains, refl, ap, sym, ◌∙◌, subst, arith}
use Rattle.std.specs.List.{list_any, cons_option, slice_split}
use Rattle.std.specs.Str.{bytes_eq}
use Rattle.std.proofs.lemmas.Bool.{or_parts}
use Rattle.std.proofs.lemmas.Bool.{or_from, cond-false}
use Rattle.std.proofs.lemmas.List.Splits.{length-slice_split}
use Rattle.std.proofs.lemmas.List.Elements.{All-contains, All-weaker}
use Rattle.std.specs.Option.{is_none}
use Rattle.tfpg_graph.specs.Declares.{modes_listed}
use Rattle.std.proofs.lemmas.List.Sums.{sum_by-cons}
use Rattle.tfpg_base.specs.Set.{with_member}
use Rattle.tfpg_base.specs.SetBits.{bits_of}
use Rattle.tfpg_base.proofs.lemmas.Sets.{with_member-only, sum_by-with_member}
use Rattle.tfpg_base.proofs.lemmas.lists.Elements.{All-from_members, Contains-head, Contains-tail}
use Rattle.tfpg_base.proofs.lemmas.lists.LookedUp.{filter_map-some, filter_map-unlike_others}
use Rattle.tfpg_graph.specs.Graph.{Tfpg, mode_named}
use Rattle.tfpg_graph.specs.Causes.{has_twice}
use Rattle.tfpg_graph.specs.inside.reading.LineCauses.{with_option}
use Rattle.tfpg_graph.proofs.lemmas.reading.saying.SaidModes.{mode_found}
use Rattle.tfpg_base.proofs.lemmas.lists.Passing.{All-filter_map}

module _ (graph : Tfpg) (name : List ℕ) (others : List (List ℕ)) (members : List ℕ) (once : has_twice (name ∷ others) ≡ false)
    (named : All (Contains (filter_map (mode_named graph) others)) members)
    (worth : bits_of members ≡ bits_of (filter_map (mode_named graph) others)) where
  -- a mode that is named is not among those that are named after it
  new_mode : (mode : ℕ) → mode_named graph name ≡ Some mode → Contains members mode → ⊥
  new_mode mode is member =
      All-contains (λ other. mode ≢ other) (filter_map (mode_named graph) others) mode
      (filter_map-unlike_others (mode_named graph) (slice_get graph.modes) (λ word y found. (mode_found graph word y found).1) name mode others is (or_parts (list_any (bytes_eq name) others) (has_twice others) once).0)
      (All-contains (Contains (filter_map (mode_named graph) others)) members mode named member) refl

  -- the modes with one more are those that are named with it
  pub named_more : All (Contains (filter_map (mode_named graph) (name ∷ others))) (with_option (mode_named graph name) members)
  named_more = by (mode_named graph name)
    where
      by : (o : Option ℕ) → All (Contains (cons_option o (filter_map (mode_named graph) others))) (with_option o members)
      by None = named
      by (Some mode) = All-from_members (Contains (mode ∷ filter_map (mode_named graph) others)) (with_member mode members)
          (λ other member. ⊎_elim
          (λ same. subst (Contains (mode ∷ filter_map (mode_named graph) others)) same (Contains-head mode (filter_map (mode_named graph) others)))
          (λ old. Contains-tail mode (filter_map (mode_named graph) others) other (All-contains (Contains (filter_map (mode_named graph) others)) members other named old))
          (with_member-only mode members other member))

  -- and are worth as much
  pub worth_more : bits_of (with_option (mode_named graph name) members) ≡ bits_of (filter_map (mode_named graph) (name ∷ others))
  worth_more = by (mode_named graph name) refl
    where
      by : (o : Option ℕ) → mode_named graph name ≡ o → bits_of (with_option o members) ≡ bits_of (cons_option o (filter_map (mode_named graph) others))
      by None is = worth
      by (Some mode) is = sum_by-with_member (λ mode. 2 ^ mode) mode members (new_mode mode is) ∙ ap (λ rest. 2 ^ mode + rest) worth
          ∙ sym (sum_by-cons (λ mode. 2 ^ mode) mode (filter_map (mode_named graph) others))

module _ (graph : Tfpg) (word : List ℕ) (named : bytes_eq word (codes "*") ≡ false) (some_mode : bytes_eq word (codes "-") ≡ false)
    (known : list_any (λ name. is_none (mode_named graph name)) (modes_listed word) ≡ false) where
  -- a word that is neither a star nor a hyphen names some modes
  pub some_named : filter_map (mode_named graph) (modes_listed word) ≢ []
  some_named =
      let listed : modes_listed word ≡ slice_split (λ byte. byte == 44) word = cond-false _ _ _ (or_from _ _ named some_mode) in
      filter_map-some (mode_named graph) (modes_listed word) (omega (arith, ap length listed, length-slice_split (λ byte. byte == 44) word)) known

-- the numbers of modes that are named are below the number of modes
pub named_within : (graph : Tfpg) (names : List (List ℕ)) → All (λ mode. mode < length graph.modes) (filter_map (mode_named graph) names)
named_within graph names = All-filter_map (mode_named graph) (λ mode. mode < length graph.modes) (λ name mode some. (mode_found graph name mode some).0) names

-- the members of a set that are all named are below the number of modes
pub members_within : (graph : Tfpg) (names : List (List ℕ)) (members : List ℕ) → All (Contains (filter_map (mode_named graph) names)) members → All (λ mode. mode < length graph.modes) members
members_within graph names members named =
    All-weaker (Contains (filter_map (mode_named graph) names)) (λ mode. mode < length graph.modes)
    (λ mode is. All-contains (λ m. m < length graph.modes) (filter_map (mode_named graph) names) mode (named_within graph names) is) members named
