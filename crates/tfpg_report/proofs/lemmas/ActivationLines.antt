-- The line of an activation is of that activation alone.
use Rattle.std.proofs.Common.{◌≡◌, ℕ, ◌<◌, ◌≤◌, List, [], ◌∷◌, length, map, get_or, All, codes, refl, sym, ap, ◌∙◌, arith}
use Rattle.std.specs.Prelude.{decimal}
use Rattle.std.proofs.lemmas.Fmt.{decimal_injective}
use Rattle.std.proofs.lemmas.Option.{same_Some}
use Rattle.tfpg_base.specs.declared.activation.Activation.{Activation}
use Rattle.tfpg_base.specs.declared.limits.TheConstants.{MAX_TIME}
use Rattle.tfpg_base.specs.Words.{words_of}
use Rattle.tfpg_base.proofs.lemmas.Separators.{name_lacks}
use Rattle.tfpg_base.proofs.lemmas.lists.Images.{map-injective}
use Rattle.tfpg_base.proofs.lemmas.lists.Lacking.{lacks_checked, slice_split-join}
use Rattle.tfpg_graph.specs.Graph.{Tfpg, name_word, node_named}
use Rattle.tfpg_graph.specs.Valid.{IsValid}
use Rattle.tfpg_graph.proofs.lemmas.reading.spelling.SpelledEdges.{is_name-name_word}
use Rattle.tfpg_report.specs.inside.LineNames.{activation_line}
use Rattle.tfpg_report.proofs.lemmas.CleanLines.{number_lacks}
use Rattle.tfpg_report.proofs.lemmas.MemberWords.{node_of_word}

module _ (graph : Tfpg) (valid : IsValid graph) where
  -- an activation of a node of the graph, at a time in range
  pub record IsInRange (activation : Activation) : Type 0 where
    pub node : activation.node < length graph.nodes
    pub time : activation.time ≤ MAX_TIME

  -- the words of its line
  pub activation_words : (activation : Activation) → IsInRange activation
      → words_of (activation_line graph activation) ≡ codes "at" ∷ name_word graph activation.node ∷ decimal activation.time ∷ []
  activation_words activation is =
      slice_split-join 32 (codes "at" ∷ name_word graph activation.node ∷ decimal activation.time ∷ []) (omega arith) (
        lacks_checked 32 (codes "at") refl,
        (name_lacks 32 (name_word graph activation.node) refl (is_name-name_word graph activation.node is.node valid.so_far.node_names), (number_lacks 32 activation.time (omega arith), tt)),
      )

  -- Equal lines are of one activation.
  pub one_activation : (one other : Activation) → IsInRange one → IsInRange other → activation_line graph one ≡ activation_line graph other → one ≡ other
  one_activation one other is too same =
      let words = sym (activation_words one is) ∙ ap words_of same ∙ activation_words other too in
      let node : one.node ≡ other.node =
      same_Some one.node other.node
      (sym (node_of_word graph valid one.node is.node) ∙ ap (λ (ws : List (List ℕ)). node_named graph (get_or ws 1 [])) words ∙ node_of_word graph valid other.node too.node) in
      let time : one.time ≡ other.time =
      decimal_injective one.time other.time (omega (arith, is.time)) (omega (arith, too.time)) (ap (λ (ws : List (List ℕ)). get_or ws 2 []) words) in
      λ i. record { node = node i; time = time i }

  -- and equal lists of lines of one list of activations
  pub one_trace : (one other : List Activation) → All IsInRange one → All IsInRange other → map (activation_line graph) one ≡ map (activation_line graph) other → one ≡ other
  one_trace = map-injective IsInRange (activation_line graph) one_activation
