use Rattle.std.proofs.Common.{subst, sym, ap, ◌∙◌, ◌≡◌, ◌≤◌, ℕ, List, length, Some}
use Rattle.tfpg_evidence.specs.declared.reason.Reason.TheVariants.{Pick}
use Rattle.tfpg_clause.specs.Facts.{fact}
use Rattle.tfpg_clause.specs.declared.path.PathSplit.{PathSplit}
use Rattle.tfpg_search.specs.inside.Leaf.{Leaf, IsStated}
use Rattle.tfpg_search.specs.SearchState.{SearchState}
use Rattle.tfpg_search.specs.inside.Leaving.{Pushing}
use Rattle.tfpg_search.proofs.lemmas.leaves.AlternativePushed.{picked_small, pushing_by}
use Rattle.tfpg_search.proofs.search.Search.push_one.Goals.{in-Ok, in-Err}
use Rattle.tfpg_search.proofs.search.Search.push_one.Goals as goal
use Rattle.tfpg_clause.specs.inside.MarkedTrees.{picked_on, stated_on}
use Rattle.tfpg_clause.specs.Case.{case_of}

pub push-requires-clause-left : goal.push-requires-clause-left
push-requires-clause-left g c =
    let path = c.deref.ensures.value ∙ ap (λ (s : SearchState). s.path) c.self.view_is in
    let states : picked_on c.args.graph.now c.args.log.now c.args.self.now.path c.args.split c.args.number ≡ Some c.in-Some.constraint =
    sym (c.in-Some.ensures ∙ ap (λ (fs : List PathSplit). picked_on c.args.graph.now c.args.log.now fs c.args.split c.args.number) path) in
    let small = picked_small c.clause_laws.ensures c.args.graph.now c.args.log.now c.is_always_valid.ensures.valid c.args.self.now.path c.args.split c.args.number c.in-Some.constraint states in
    subst (λ (n : ℕ). c.in-Some.constraint.left ≤ n) (sym (ap (λ (s : SearchState). length s.leaf.demands.bounds) c.self.view_is ∙ c.requires.variables)) small.left

pub push-requires-clause-right : goal.push-requires-clause-right
push-requires-clause-right g c =
    let path = c.deref.ensures.value ∙ ap (λ (s : SearchState). s.path) c.self.view_is in
    let states : picked_on c.args.graph.now c.args.log.now c.args.self.now.path c.args.split c.args.number ≡ Some c.in-Some.constraint =
    sym (c.in-Some.ensures ∙ ap (λ (fs : List PathSplit). picked_on c.args.graph.now c.args.log.now fs c.args.split c.args.number) path) in
    let small = picked_small c.clause_laws.ensures c.args.graph.now c.args.log.now c.is_always_valid.ensures.valid c.args.self.now.path c.args.split c.args.number c.in-Some.constraint states in
    subst (λ (n : ℕ). c.in-Some.constraint.right ≤ n) (sym (ap (λ (s : SearchState). length s.leaf.demands.bounds) c.self.view_is ∙ c.requires.variables)) small.right

pub returns-clause-pushing : goal.returns-clause-pushing
returns-clause-pushing g c =
    let path = c.deref.ensures.value ∙ ap (λ (s : SearchState). s.path) c.self.view_is in
    let leaf = ap (λ (s : SearchState). s.leaf) c.self.view_is in
    let states : picked_on c.args.graph.now c.args.log.now c.args.self.now.path c.args.split c.args.number ≡ Some c.in-Some.constraint =
    sym (c.in-Some.ensures ∙ ap (λ (fs : List PathSplit). picked_on c.args.graph.now c.args.log.now fs c.args.split c.args.number) path) in
    subst (λ (l : Leaf). Pushing (case_of c.args.graph.now c.args.log.now c.args.self.now.reach) c.args.self.now.path l c.push.new.self) leaf
    (pushing_by (case_of c.args.graph.now c.args.log.now c.args.self.now.reach) c.args.self.now.path c.self.inside.leaf c.push.new.self (Pick c.args.split c.args.number) c.in-Some.constraint c.push.result
    (subst (λ (l : Leaf). IsStated (fact (case_of c.args.graph.now c.args.log.now c.args.self.now.reach)) (stated_on (case_of c.args.graph.now c.args.log.now c.args.self.now.reach) c.args.self.now.path) l) (sym leaf)
    c.requires.stated)
    c.push.ensures.adds.bounds (λ facts others before there. (c.push.ensures.adds.stated facts others before there).still) c.push.ensures.adds.reasons c.push.ensures.adds.err states)

pub returns-clause-closes : goal.returns-clause-closes
returns-clause-closes g c =
    let path = c.deref.ensures.value ∙ ap (λ (s : SearchState). s.path) c.self.view_is in
    let leaf = ap (λ (s : SearchState). s.leaf) c.self.view_is in
    let states : picked_on c.args.graph.now c.args.log.now c.args.self.now.path c.args.split c.args.number ≡ Some c.in-Some.constraint =
    sym (c.in-Some.ensures ∙ ap (λ (fs : List PathSplit). picked_on c.args.graph.now c.args.log.now fs c.args.split c.args.number) path) in
    let is_stated =
    subst (λ (l : Leaf). IsStated (fact (case_of c.args.graph.now c.args.log.now c.args.self.now.reach)) (stated_on (case_of c.args.graph.now c.args.log.now c.args.self.now.reach) c.args.self.now.path) l) (sym leaf)
    c.requires.stated in
    elim c.match-push.branch [
      | in-Ok w ↦ rw w.result-is tt
      | in-Err w ↦ rw w.result-is
          (w.in-Err.ensures.adds.stated (fact (case_of c.args.graph.now c.args.log.now c.args.self.now.reach)) (stated_on (case_of c.args.graph.now c.args.log.now c.args.self.now.reach) c.args.self.now.path) is_stated states).closes
    ]
