-- One more link on a walk, why a walk ends, and that there is one way.
use Rattle.std.proofs.Common.{◌≡◌, ◌≢◌, ℕ, Bool, true, false, if◌then◌else◌, subst, ◌+◌, ◌<◌, ◌≤◌, List, [], ◌∷◌, ◌++◌, length, map, Some, refl, sym, ◌∙◌, ap, arith, length-append, append_assoc}
use Rattle.std.specs.Prelude.{slice_get}
use Rattle.std.proofs.lemmas.List.{map_push, append-nil, length-map}
use Rattle.std.proofs.lemmas.Option.{slice_get_within}
use Rattle.std.proofs.lemmas.List.Elements.{All-nil, All-push}
use Rattle.tfpg_diff.specs.declared.demand.Demand.{Demand}
use Rattle.tfpg_diff.specs.declared.why.Why.{Why}
use Rattle.tfpg_diff.specs.inside.Kept.{Climbs, IsRooted, IsLabelled, LeadsTo, Walked}
use Rattle.tfpg_diff.proofs.lemmas.Climb.{Climbs-append, Climbs-passes, length-Climbs, length-Climbs_up, Climbs_right}

-- a walk that has not begun
pub Walked-none : (links : List Demand) (from sought : ℕ) (tags : List Why) → Walked links from sought from tags tags
Walked-none links from sought tags =
    record { chain = []; climbs = refl; avoids = All-nil (λ (demand : Demand). demand.constraint.left ≢ sought); tags = sym (append-nil tags) }

-- one more link
pub Walked-more : (links : List Demand) (labelled : IsLabelled links) (from sought stands : ℕ) (before after : List Why) (link : Demand) →
    Walked links from sought stands before after → 0 < stands → stands ≢ sought → slice_get links stands ≡ Some link →
    Walked links from sought link.constraint.right before (after ++ link.why ∷ [])
Walked-more links labelled from sought stands before after link walked up other at =
    let label : link.constraint.left ≡ stands = labelled stands link up at in
    record {
      chain = walked.chain ++ link ∷ [];
      climbs = Climbs-append links from walked.chain stands (link ∷ []) link.constraint.right walked.climbs (up, at, refl);
      avoids = All-push (λ (demand : Demand). demand.constraint.left ≢ sought) walked.chain link walked.avoids (λ same. other (sym label ∙ same));
      tags = ap (λ (tags : List Why). tags ++ link.why ∷ []) walked.tags
          ∙ append_assoc before (map (λ (demand : Demand). demand.why) walked.chain) (link.why ∷ [])
          ∙ ap (λ (tags : List Why). before ++ tags) (sym (map_push (λ (demand : Demand). demand.why) walked.chain link));
    }

-- a walk that is not at zero has fewer links than there are numbers
pub length-walked : (links : List Demand) (labelled : IsLabelled links) (rooted : IsRooted links) (from sought stands : ℕ) (before after : List Why) →
    Walked links from sought stands before after → 0 < stands → stands < length links →
    length after < length before + length links
length-walked links labelled rooted from sought stands before after walked up inside =
    let rest = rooted stands inside in
    let whole : Climbs links from (walked.chain ++ rest.0) 0 = Climbs-append links from walked.chain stands rest.0 0 walked.climbs rest.1 in
    let bound : length (walked.chain ++ rest.0) ≤ length links = length-Climbs links labelled from (walked.chain ++ rest.0) whole in
    let some : 0 < length rest.0 = length-Climbs_up links stands rest.0 rest.1 up in
    omega (
      arith,
      length-append walked.chain rest.0,
      ap length walked.tags,
      length-append before (map (λ (demand : Demand). demand.why) walked.chain),
      length-map walked.chain (λ (demand : Demand). demand.why),
    )

-- the right side of a link is a number
pub link_right : (links : List Demand) (rooted : IsRooted links) (stands : ℕ) (link : Demand) →
    0 < stands → slice_get links stands ≡ Some link → link.constraint.right < length links
link_right links rooted stands link up at =
    let rest = rooted stands (slice_get_within links stands link at) in
    Climbs_right links stands link rest.0 rest.1 up at

-- a walk that has not begun
pub LeadsTo-none : (links : List Demand) (from sought : ℕ) → LeadsTo links from sought from
LeadsTo-none links from sought = record { chain = []; climbs = refl; avoids = All-nil (λ (demand : Demand). demand.constraint.left ≢ sought) }

-- one more link
pub LeadsTo-more : (links : List Demand) (labelled : IsLabelled links) (from sought stands : ℕ) (link : Demand) →
    LeadsTo links from sought stands → 0 < stands → stands ≢ sought → slice_get links stands ≡ Some link → LeadsTo links from sought link.constraint.right
LeadsTo-more links labelled from sought stands link leads up other at = record {
  chain = leads.chain ++ link ∷ [];
  climbs = Climbs-append links from leads.chain stands (link ∷ []) link.constraint.right leads.climbs (up, at, refl);
  avoids = All-push (λ (demand : Demand). demand.constraint.left ≢ sought) leads.chain link leads.avoids
      (λ same. other (sym (labelled stands link up at) ∙ same));
}

-- a walk with tags leads where it goes
pub LeadsTo-walked : (links : List Demand) (from sought stands : ℕ) (before after : List Why) → Walked links from sought stands before after →
    LeadsTo links from sought stands
LeadsTo-walked links from sought stands before after walked = record { chain = walked.chain; climbs = walked.climbs; avoids = walked.avoids }

module _ (links : List Demand) (labelled : IsLabelled links) (from sought : ℕ) (before after : List Why) where
  -- a walk with tags ends where the links lead
  pub Walked-found : (found : Bool) → LeadsTo links from sought sought → Walked links from sought (if found then sought else 0) before after →
      Walked links from sought sought before after
  Walked-found true leads walked = walked
  Walked-found false leads walked =
      subst (λ (n : ℕ). Walked links from sought n before after)
      (sym (Climbs-passes links labelled from leads.chain sought walked.chain leads.climbs walked.climbs walked.avoids)) walked

  -- also at zero
  pub Walked-not_found : (found : Bool) → LeadsTo links from sought 0 → Walked links from sought (if found then sought else 0) before after →
      Walked links from sought 0 before after
  Walked-not_found true leads walked =
      subst (λ (n : ℕ). Walked links from sought n before after)
      (Climbs-passes links labelled from walked.chain sought leads.chain walked.climbs leads.climbs leads.avoids) walked
  Walked-not_found false leads walked = walked
