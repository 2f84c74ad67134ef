-- Modes that names add to others, one name after the other, and what is left of the names.
use Rattle.std.proofs.Common.{◌≡◌, ◌≢◌, ℕ, ◌+◌, ◌^◌, true, false, List, [], ◌∷◌, filter_map, Option, Some, None, All, Contains, slice_get, refl, ap, sym, ◌∙◌, subst, ⊎_elim, arith}
use Rattle.std.specs.List.{list_any, cons_option}
use Rattle.std.specs.Option.{is_none}
use Rattle.std.specs.Str.{bytes_eq}
use Rattle.std.proofs.lemmas.Bool.{or_parts, or_from, false_from_ne_true, true≢false}
use Rattle.std.proofs.lemmas.List.Elements.{All-nil, All-head, All-tail, All-cons, All-contains}
use Rattle.std.proofs.lemmas.List.Sums.{sum_by-cons}
use Rattle.std.proofs.lemmas.Slice.Eq.{bytes_eq-Decides}
use Rattle.std.proofs.lemmas.Option.{none-some, same_Some}
use Rattle.tfpg_base.specs.Set.{with_member}
use Rattle.tfpg_base.specs.SetBits.{bits_of}
use Rattle.tfpg_base.proofs.lemmas.Sets.{Contains-with_member, with_member-keeps, with_member-only, sum_by-with_member}
use Rattle.tfpg_base.proofs.lemmas.lists.Elements.{All-from_members}
use Rattle.tfpg_base.proofs.lemmas.lists.LookedUp.{filter_map-unlike_others}
use Rattle.tfpg_graph.specs.Graph.{Tfpg, mode_named}
use Rattle.tfpg_graph.specs.Causes.{has_twice}
use Rattle.tfpg_graph.specs.inside.reading.EdgeNames.{NameNewModes}
use Rattle.tfpg_graph.proofs.lemmas.reading.saying.SaidModes.{mode_found}

-- where the value of a word is that of none of others, the word is none of them
unlike_others : {Y : Type 0} (look : List ℕ → Option Y) (word : List ℕ) (y : Y) → look word ≡ Some y → (others : List (List ℕ))
    → All (λ other. y ≢ other) (filter_map look others) → list_any (bytes_eq word) others ≡ false
unlike_others look word y is [] apart = refl
unlike_others {Y = Y} look word y is (first ∷ others) apart = by (unlike_others look word y is others) (look first) refl apart
  where
    same_value : bytes_eq word first ≡ true → look first ≡ Some y
    same_value same = ap look (sym ((bytes_eq-Decides word first).0 same)) ∙ is

    by : (All (λ other. y ≢ other) (filter_map look others) → list_any (bytes_eq word) others ≡ false)
        → (o : Option Y) → look first ≡ o → All (λ other. y ≢ other) (cons_option o (filter_map look others))
        → list_any (bytes_eq word) (first ∷ others) ≡ false
    by rest None none all =
        or_from _ _ (false_from_ne_true (bytes_eq word first) (λ same. none-some y (sym none ∙ same_value same))) (rest all)
    by rest (Some other) some all =
        or_from _ _
        (false_from_ne_true (bytes_eq word first)
        (λ same. All-head (λ o. y ≢ o) other (filter_map look others) all (same_Some y other (sym (same_value same) ∙ some))))
        (rest (All-tail (λ o. y ≢ o) other (filter_map look others) all))

module _ (graph : Tfpg) (modes : List ℕ) (name : List ℕ) (others : List (List ℕ)) where
  module _ (mode : ℕ) (is : mode_named graph name ≡ Some mode) where
    named_are : filter_map (mode_named graph) (name ∷ others) ≡ mode ∷ filter_map (mode_named graph) others
    named_are = ap (λ o. cons_option o (filter_map (mode_named graph) others)) is

    apart : NameNewModes graph modes (name ∷ others) → All (λ m. Contains modes m → ⊥) (mode ∷ filter_map (mode_named graph) others)
    apart all = subst (All (λ m. Contains modes m → ⊥)) named_are all.new

    -- the other names add to the modes with the first
    others_new : NameNewModes graph modes (name ∷ others) → NameNewModes graph (with_member mode modes) others
    others_new all =
        let once = or_parts (list_any (bytes_eq name) others) (has_twice others) all.once in
        let differ = filter_map-unlike_others (mode_named graph) (slice_get graph.modes) (λ word y found. (mode_found graph word y found).1) name mode others is once.0 in
        let absent = All-tail (λ m. Contains modes m → ⊥) mode (filter_map (mode_named graph) others) (apart all) in
        record {
          known = (or_parts _ _ all.known).1;
          once = once.1;
          new = All-from_members (λ m. Contains (with_member mode modes) m → ⊥) (filter_map (mode_named graph) others)
              (λ m there member. ⊎_elim
              (λ same. All-contains (λ other. mode ≢ other) (filter_map (mode_named graph) others) m differ there same)
              (λ old. All-contains (λ other. Contains modes other → ⊥) (filter_map (mode_named graph) others) m absent there old)
              (with_member-only mode modes m member));
        }

    module _ (fresh : Contains modes mode → ⊥) where
      -- and with the first they add to the modes
      all_new : NameNewModes graph (with_member mode modes) others → NameNewModes graph modes (name ∷ others)
      all_new rest =
          let absent : (m : ℕ) → Contains (filter_map (mode_named graph) others) m → Contains (with_member mode modes) m → ⊥ =
          λ m there. All-contains (λ other. Contains (with_member mode modes) other → ⊥) (filter_map (mode_named graph) others) m rest.new there in
          record {
            known = or_from _ _ (ap is_none is) rest.known;
            once = or_from _ _
                (unlike_others (mode_named graph) name mode is others
                (All-from_members (λ other. mode ≢ other) (filter_map (mode_named graph) others)
                (λ m there same. absent m there (subst (Contains (with_member mode modes)) same (Contains-with_member mode modes)))))
                rest.once;
            new = subst (All (λ m. Contains modes m → ⊥)) (sym named_are)
                (All-cons (λ m. Contains modes m → ⊥) mode (filter_map (mode_named graph) others) fresh
                (All-from_members (λ m. Contains modes m → ⊥) (filter_map (mode_named graph) others)
                (λ m there member. absent m there (with_member-keeps mode modes m member))));
          }

      -- and the first is worth what it adds
      worth_with : bits_of (with_member mode modes) + bits_of (filter_map (mode_named graph) others)
          ≡ bits_of modes + bits_of (filter_map (mode_named graph) (name ∷ others))
      worth_with =
          omega (
            arith,
            sum_by-with_member (λ m. 2 ^ m) mode modes fresh,
            ap bits_of named_are,
            sum_by-cons (λ m. 2 ^ m) mode (filter_map (mode_named graph) others),
          )

-- The names name new modes where those that are left name others than these modes, and both together are worth as much.
pub record AreLeft (graph : Tfpg) (names : List (List ℕ)) (modes : List ℕ) (left : List (List ℕ)) : Type 0 where
  pub goes : NameNewModes graph [] names → NameNewModes graph modes left
  pub comes : NameNewModes graph modes left → NameNewModes graph [] names
  pub worth : bits_of modes + bits_of (filter_map (mode_named graph) left) ≡ bits_of (filter_map (mode_named graph) names)

pub AreLeft-start : (graph : Tfpg) (names : List (List ℕ)) → AreLeft graph names [] names
AreLeft-start graph names = record { goes = λ all. all; comes = λ all. all; worth = omega arith }

module _ (graph : Tfpg) (names : List (List ℕ)) (modes : List ℕ) where
  module _ (name : List ℕ) (others : List (List ℕ)) (is : AreLeft graph names modes (name ∷ others)) where
    -- one name that is no mode's
    pub AreLeft-unknown : mode_named graph name ≡ None → NameNewModes graph [] names → ⊥
    AreLeft-unknown none all = true≢false (sym (ap is_none none) ∙ (or_parts _ _ (is.goes all).known).0)

    module _ (mode : ℕ) (found : mode_named graph name ≡ Some mode) where
      -- one that is a mode's that was named
      pub AreLeft-again : Contains modes mode → NameNewModes graph [] names → ⊥
      AreLeft-again member all =
          All-head (λ m. Contains modes m → ⊥) mode (filter_map (mode_named graph) others)
          (apart graph modes name others mode found (is.goes all)) member

      -- one that is another mode's
      pub AreLeft-turn : (Contains modes mode → ⊥) → AreLeft graph names (with_member mode modes) others
      AreLeft-turn fresh = record {
        goes = λ all. others_new graph modes name others mode found (is.goes all);
        comes = λ rest. is.comes (all_new graph modes name others mode found fresh rest);
        worth = worth_with graph modes name others mode found fresh ∙ is.worth;
      }

  -- none is left
  pub AreLeft-found : AreLeft graph names modes [] → NameNewModes graph [] names
  AreLeft-found is = is.comes (record { known = refl; once = refl; new = All-nil (λ m. Contains modes m → ⊥) })
