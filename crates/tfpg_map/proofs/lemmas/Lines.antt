-- The text of a map, line by line.
use Rattle.std.proofs.Common.{◌≡◌, ◌≢◌, ℕ, ◌<◌, ◌≤◌, ◌==◌, Bool, true, false, cond, List, [], ◌∷◌, ◌++◌, length, map, All, AllPairs, Contains, Option, Some, None, refl, ap, sym, subst, ◌∙◌, arith, append_assoc}
use Rattle.std.proofs.lemmas.Bool.{eqb-true, eqb-false, ne_eqb}
use Rattle.std.proofs.lemmas.List.{append-nil, map-append}
use Rattle.std.proofs.lemmas.List.Elements.{All-nil, All-cons, All-head, All-tail, All-append, All-contains}
use Rattle.std.proofs.lemmas.List.Quantifiers.{all_pairs_push}
use Rattle.tfpg_base.specs.declared.activation.Activation.{Activation}
use Rattle.tfpg_base.specs.declared.limits.TheConstants.{LONGEST_LINE}
use Rattle.tfpg_base.specs.Hypothesis.{Hypothesis, believing}
use Rattle.tfpg_base.specs.Trace.{time_of, with_time}
use Rattle.tfpg_base.proofs.lemmas.lists.Elements.{Contains-head, Contains-middle, Contains-tail, AllPairs-head, AllPairs-tail}
use Rattle.tfpg_base.proofs.lemmas.Traces.{time_of-with_time, time_of-with_time_other, IsRisingByNode-with_time}
use Rattle.tfpg_graph.specs.Graph.{Tfpg}
use Rattle.tfpg_graph.specs.Valid.{IsValid}
use Rattle.tfpg_report.specs.inside.LineNames.{activation_line}
use Rattle.tfpg_report.specs.SetText.{IsHypothesisOf}
use Rattle.tfpg_map.specs.Spelling.{IsActivationOf, SpellsMap, BeginsMap, set_line}
use Rattle.tfpg_map.specs.inside.Lines.{HasRead, TakesActivation, IsNoActivation}
use Rattle.tfpg_map.proofs.lemmas.LineWords.{one_node}

-- ---- lists of activations

-- a node that is listed nowhere
listed_nowhere : (listed : List Activation) (node : ℕ) → time_of listed node ≡ None → All (λ activation. activation.node ≢ node) listed
listed_nowhere [] node e = All-nil (λ activation. activation.node ≢ node)
listed_nowhere (first ∷ others) node e = by (first.node == node) refl e (listed_nowhere others node)
  where
    by : (b : Bool) → (first.node == node) ≡ b → cond b (Some first.time) (time_of others node) ≡ None
        → (time_of others node ≡ None → All (λ activation. activation.node ≢ node) others) → All (λ activation. activation.node ≢ node) (first ∷ others)
    by true is none rest = absurd cc
    by false is none rest = All-cons (λ activation. activation.node ≢ node) first others (eqb-false first.node node is) (rest none)

-- the times after one more activation, of a node that was listed nowhere
time_of-push : (listed : List Activation) (activation : Activation) (node : ℕ) → time_of listed activation.node ≡ None
    → time_of (listed ++ activation ∷ []) node ≡ cond (activation.node == node) (Some activation.time) (time_of listed node)
time_of-push [] activation node e = refl
time_of-push (first ∷ others) activation node e = by (first.node == activation.node) refl e (time_of-push others activation node)
  where
    later : (b : Bool) → (first.node == node) ≡ b → (time_of (others ++ activation ∷ []) node ≡ cond (activation.node == node) (Some activation.time) (time_of others node)) → first.node ≢ activation.node
        → cond b (Some first.time) (time_of (others ++ activation ∷ []) node) ≡ cond (activation.node == node) (Some activation.time) (cond b (Some first.time) (time_of others node))
    later true is rest apart =
        let other : (activation.node == node) ≡ false = ne_eqb activation.node node (λ same. apart (eqb-true first.node node is ∙ sym same)) in
        rw other refl
    later false is rest apart = rest

    by : (b : Bool) → (first.node == activation.node) ≡ b → cond b (Some first.time) (time_of others activation.node) ≡ None
        → (time_of others activation.node ≡ None → time_of (others ++ activation ∷ []) node ≡ cond (activation.node == node) (Some activation.time) (time_of others node))
        → cond (first.node == node) (Some first.time) (time_of (others ++ activation ∷ []) node) ≡ cond (activation.node == node) (Some activation.time) (cond (first.node == node) (Some first.time) (time_of others node))
    by true is none rest = absurd cc
    by false is none rest = later (first.node == node) refl (rest none) (eqb-false first.node activation.node is)

-- ---- a line more

-- the line of a set begins a map
pub SpellsMap-set : (graph : Tfpg) (line : List ℕ) (hypothesis : Hypothesis) → IsHypothesisOf graph hypothesis → line ≡ set_line graph hypothesis → length line ≤ LONGEST_LINE
    → SpellsMap graph (line ∷ []) hypothesis []
SpellsMap-set graph line hypothesis of spelled short = record {
  of_graph = of;
  listed = [];
  of_nodes = All-nil (IsActivationOf graph);
  once = λ i j d lt below. absurd (omega arith);
  spelled = ap (λ (l : List ℕ). l ∷ []) spelled;
  short = All-cons (λ l. length l ≤ LONGEST_LINE) line [] short (All-nil _);
  rising = λ i j d lt below. absurd (omega arith);
  same_times = λ node. refl;
}

-- and the line of a further activation goes on with one
pub SpellsMap-more : (graph : Tfpg) (lines : List (List ℕ)) (hypothesis : Hypothesis) (trace now : List Activation) (line : List ℕ) → SpellsMap graph lines hypothesis trace
    → TakesActivation graph trace line now → length line ≤ LONGEST_LINE → SpellsMap graph (lines ++ line ∷ []) hypothesis now
SpellsMap-more graph lines hypothesis trace now line spells takes short =
    let activation = takes.activation in
    let nowhere : time_of spells.listed activation.node ≡ None = sym (spells.same_times activation.node) ∙ takes.new_node in
    record {
      of_graph = spells.of_graph;
      listed = spells.listed ++ activation ∷ [];
      of_nodes = All-append (IsActivationOf graph) spells.listed (activation ∷ []) spells.of_nodes (All-cons (IsActivationOf graph) activation [] takes.of_graph (All-nil _));
      once = all_pairs_push (λ earlier later. earlier.node ≢ later.node) spells.listed activation spells.once (listed_nowhere spells.listed activation.node nowhere);
      spelled = ap (λ (ls : List (List ℕ)). ls ++ line ∷ []) spells.spelled
          ∙ ap (λ (l : List ℕ). (set_line graph hypothesis ∷ map (activation_line graph) spells.listed) ++ l ∷ []) takes.spelled
          ∙ ap (λ (ls : List (List ℕ)). set_line graph hypothesis ∷ ls) (sym (map-append (activation_line graph) spells.listed (activation ∷ [])));
      short = All-append (λ l. length l ≤ LONGEST_LINE) lines (line ∷ []) spells.short (All-cons (λ l. length l ≤ LONGEST_LINE) line [] short (All-nil _));
      rising = subst (λ (t : List Activation). AllPairs (λ earlier later. earlier.node < later.node) t) (sym takes.now_is) (IsRisingByNode-with_time trace activation.node activation.time spells.rising);
      same_times = λ node.
          ap (λ (t : List Activation). time_of t node) takes.now_is ∙ times activation node nowhere (spells.same_times node);
    }
  where
    times : (activation : Activation) (node : ℕ) → time_of spells.listed activation.node ≡ None → time_of trace node ≡ time_of spells.listed node
        → time_of (with_time activation.node activation.time trace) node ≡ time_of (spells.listed ++ activation ∷ []) node
    times activation node nowhere same = by (activation.node == node) refl
      where
        by : (b : Bool) → (activation.node == node) ≡ b → time_of (with_time activation.node activation.time trace) node ≡ time_of (spells.listed ++ activation ∷ []) node
        by true is =
            ap (time_of (with_time activation.node activation.time trace)) (sym (eqb-true activation.node node is)) ∙ time_of-with_time trace activation.node activation.time
            ∙ sym (time_of-push spells.listed activation node nowhere ∙ ap (λ c. cond c (Some activation.time) (time_of spells.listed node)) is)
        by false is =
            time_of-with_time_other trace activation.node activation.time node (eqb-false activation.node node is) ∙ same
            ∙ sym (time_of-push spells.listed activation node nowhere ∙ ap (λ c. cond c (Some activation.time) (time_of spells.listed node)) is)

-- ---- lines with which no map goes on

-- the activation of the line after those that are listed
record IsNextActivation (graph : Tfpg) (listed others : List Activation) (line : List ℕ) : Type 0 where
  activation : Activation
  among : Contains others activation
  spelled : line ≡ activation_line graph activation
  nowhere : time_of listed activation.node ≡ None

next_listed : (graph : Tfpg) → IsValid graph → (listed others : List Activation) (line : List ℕ) (more : List (List ℕ)) → All (IsActivationOf graph) listed → All (IsActivationOf graph) others
    → AllPairs (λ earlier later. earlier.node ≢ later.node) others → map (activation_line graph) listed ++ line ∷ more ≡ map (activation_line graph) others → IsNextActivation graph listed others line
next_listed graph valid [] [] line more these those once e = absurd cc
next_listed graph valid [] (activation ∷ others) line more these those once e = record { activation = activation; among = Contains-head activation others; spelled = cc; nowhere = refl }
next_listed graph valid (first ∷ listed) [] line more these those once e = absurd cc
next_listed graph valid (first ∷ listed) (other ∷ others) line more these those once e =
    let head : activation_line graph first ≡ activation_line graph other = cc in
    let tail : map (activation_line graph) listed ++ line ∷ more ≡ map (activation_line graph) others = cc in
    let same : first.node ≡ other.node = one_node graph valid first other (All-head (IsActivationOf graph) first listed these) (All-head (IsActivationOf graph) other others those) head in
    let next = next_listed graph valid listed others line more (All-tail (IsActivationOf graph) first listed these) (All-tail (IsActivationOf graph) other others those)
    (AllPairs-tail (λ earlier later. earlier.node ≢ later.node) other others once) tail in
    let apart : other.node ≢ next.activation.node = All-contains (λ later. other.node ≢ later.node) others next.activation
    (AllPairs-head (λ earlier later. earlier.node ≢ later.node) other others once) next.among in
    record {
      activation = next.activation;
      among = Contains-tail other others next.activation next.among;
      spelled = next.spelled;
      nowhere = ap (λ b. cond b (Some first.time) (time_of listed next.activation.node)) (ne_eqb first.node next.activation.node (λ is. apart (sym same ∙ is))) ∙ next.nowhere;
    }

-- no map goes on with a line that spells no activation of a node that has none
pub no_map-activation : (graph : Tfpg) → IsValid graph → (lines : List (List ℕ)) (hypothesis : Hypothesis) (trace : List Activation) (line : List ℕ) → SpellsMap graph lines hypothesis trace
    → IsNoActivation graph trace line → BeginsMap graph (lines ++ line ∷ []) → ⊥
no_map-activation graph valid lines hypothesis trace line spells none begins =
    let whole = begins.1.2 in
    let same : set_line graph hypothesis ∷ (map (activation_line graph) spells.listed ++ line ∷ begins.0) ≡ set_line graph begins.1.0 ∷ map (activation_line graph) whole.listed =
    sym (append_assoc lines (line ∷ []) begins.0 ∙ ap (λ (ls : List (List ℕ)). ls ++ line ∷ begins.0) spells.spelled) ∙ whole.spelled in
    let tail : map (activation_line graph) spells.listed ++ line ∷ begins.0 ≡ map (activation_line graph) whole.listed = cc in
    let next = next_listed graph valid spells.listed whole.listed line begins.0 spells.of_nodes whole.of_nodes whole.once tail in
    none next.activation (All-contains (IsActivationOf graph) whole.listed next.activation whole.of_nodes next.among) next.spelled (spells.same_times next.activation.node ∙ next.nowhere)

-- nor does one go on with a line that is too long
pub no_map-long : (graph : Tfpg) (lines : List (List ℕ)) (line : List ℕ) → LONGEST_LINE < length line → BeginsMap graph (lines ++ line ∷ []) → ⊥
no_map-long graph lines line long begins =
    let short = All-contains (λ l. length l ≤ LONGEST_LINE) _ line begins.1.2.short (subst (λ (ls : List (List ℕ)). Contains ls line) (sym (append_assoc lines (line ∷ []) begins.0)) (Contains-middle lines line begins.0)) in
    omega (arith, long, short)

-- ---- as the code comes to it

-- the text of the set without a member begins a map
none_of : (graph : Tfpg) → IsHypothesisOf graph (believing [])
none_of graph = record {
  set = record { rising = λ i j d lt below. absurd (omega arith); members = All-nil _ };
  rising = λ i j d lt below. absurd (omega arith);
  monitored = All-nil _;
}

-- the lines that were read begin a map
pub HasRead-begins : (graph : Tfpg) (hypothesis : Option Hypothesis) (trace : List Activation) (lines : List (List ℕ)) → HasRead graph hypothesis trace lines → BeginsMap graph lines
HasRead-begins graph None trace lines read = (
  set_line graph (believing []) ∷ [],
  (
    believing [],
    [],
    subst (λ (ls : List (List ℕ)). SpellsMap graph (ls ++ set_line graph (believing []) ∷ []) (believing []) []) (sym read.0)
        (SpellsMap-set graph (set_line graph (believing [])) (believing []) (none_of graph) refl (omega arith)),
  ),
)
HasRead-begins graph (Some hypothesis) trace lines read =
    ([], (hypothesis, trace, subst (λ (ls : List (List ℕ)). SpellsMap graph ls hypothesis trace) (sym (append-nil lines)) read))

-- one more line
pub HasRead-more : (graph : Tfpg) (hypothesis : Hypothesis) (seen : Option Hypothesis) (trace now : List Activation) (lines : List (List ℕ)) (line : List ℕ) → seen ≡ Some hypothesis → HasRead graph seen trace lines
    → TakesActivation graph trace line now → length line ≤ LONGEST_LINE → HasRead graph (Some hypothesis) now (lines ++ line ∷ [])
HasRead-more graph hypothesis seen trace now lines line is read takes short =
    SpellsMap-more graph lines hypothesis trace now line (subst (λ (s : Option Hypothesis). HasRead graph s trace lines) is read) takes short

-- a line that is at fault
pub HasRead-fault : (graph : Tfpg) → IsValid graph → (hypothesis : Hypothesis) (seen : Option Hypothesis) (trace : List Activation) (lines : List (List ℕ)) (line : List ℕ) → seen ≡ Some hypothesis
    → HasRead graph seen trace lines → IsNoActivation graph trace line → BeginsMap graph (lines ++ line ∷ []) → ⊥
HasRead-fault graph valid hypothesis seen trace lines line is read none =
    no_map-activation graph valid lines hypothesis trace line (subst (λ (s : Option Hypothesis). HasRead graph s trace lines) is read) none
