-- The words for the members of a set: the names of failure modes, and the words for monitors that are not believed.
use Rattle.std.proofs.Common.{◌≡◌, ◌⊎◌, ℕ, ◌<◌, ◌≤◌, ◌==◌, false, eqb, List, [], ◌∷◌, length, map, get_or, All, IsTrue, Some, unwrap_or, codes, refl, sym, ap, ◌∙◌, inl, inr, arith}
use Rattle.std.specs.Option.{option_and_then}
use Rattle.std.proofs.lemmas.Bool.{eq-eqb, ne_eqb, false≢true}
use Rattle.std.proofs.lemmas.List.Elements.{All-append, All-cons, All-map}
use Rattle.std.proofs.lemmas.Option.{slice_get-get_or, same_Some}
use Rattle.tfpg_base.specs.Hypothesis.{Hypothesis}
use Rattle.tfpg_base.specs.Words.{is_name, is_name_byte}
use Rattle.tfpg_base.proofs.lemmas.Separators.{name_lacks}
use Rattle.tfpg_base.proofs.lemmas.WordLengths.{name_short}
use Rattle.tfpg_base.proofs.lemmas.lists.Lacking.{Lacks}
use Rattle.tfpg_base.proofs.lemmas.lists.Numbered.{one_index}
use Rattle.tfpg_base.proofs.lemmas.lists.Positions.{position-at}
use Rattle.tfpg_graph.specs.Graph.{Tfpg, name_at, name_word, node_named, failures, failure_at, position_of_failure, is_failure, is_monitored, failure_word}
use Rattle.tfpg_graph.specs.Valid.{IsValid}
use Rattle.tfpg_graph.proofs.lemmas.NodeAt.{monitored_within}
use Rattle.tfpg_graph.proofs.lemmas.Numbered.{failure_at-below}
use Rattle.tfpg_graph.proofs.lemmas.declaring.Named.{named_found}
use Rattle.tfpg_graph.proofs.lemmas.reading.spelling.SpelledEdges.{is_name-name_word, node_named-name_word}
use Rattle.tfpg_report.specs.SetText.{IsHypothesisOf}
use Rattle.tfpg_graph.specs.Members.{doubt_word, member_words}

-- ---- names of nodes

-- the word of a node that was found by its name
pub word_of_named : (graph : Tfpg) (name : List ℕ) (node : ℕ) → node_named graph name ≡ Some node → (node < length graph.nodes) × (name ≡ name_word graph node)
word_of_named graph name node found = let is = named_found graph name node found in (is.0, sym (ap (λ o. unwrap_or o []) is.1))

-- ---- names of failure modes

-- its name is that of the node
pub failure_word-node : (graph : Tfpg) (position node : ℕ) → failure_at graph position ≡ Some node → failure_word graph position ≡ name_word graph node
failure_word-node graph position node at = ap (λ o. unwrap_or (option_and_then (name_at graph) o) []) at

-- a failure mode stands at its position, and at no earlier one
position_of-failure : (graph : Tfpg) (position node : ℕ) → position < length (failures graph) → failure_at graph position ≡ Some node → position_of_failure graph node ≡ Some position
position_of-failure graph position node within at =
    let same : (k : ℕ) → k < length (failures graph) → failure_at graph k ≡ Some (get_or (failures graph) k 0) = λ k lt. slice_get-get_or (failures graph) k 0 lt in
    position-at (λ failure. failure == node) (failures graph) position 0 within
    (eq-eqb _ _ (same_Some _ _ (sym (same position within) ∙ at)))
    (λ earlier before. ne_eqb (get_or (failures graph) earlier 0) node (λ is. omega (
      arith,
      before,
      one_index (λ n. is_failure n.kind) 0 graph.nodes earlier position node (same earlier (omega (arith, before, within)) ∙ ap Some is) at,
    )))

module _ (graph : Tfpg) (valid : IsValid graph) where
  -- the name of a node names it
  pub node_of_word : (node : ℕ) → node < length graph.nodes → node_named graph (name_word graph node) ≡ Some node
  node_of_word node within = node_named-name_word graph node within valid.so_far.nodes_differ

  -- the name of a failure mode names its position
  pub failure_word-named : (position : ℕ) → position < length (failures graph) → option_and_then (position_of_failure graph) (node_named graph (failure_word graph position)) ≡ Some position
  failure_word-named position within =
      let node = get_or (failures graph) position 0 in
      let at : failure_at graph position ≡ Some node = slice_get-get_or (failures graph) position 0 within in
      ap (λ (name : List ℕ). option_and_then (position_of_failure graph) (node_named graph name)) (failure_word-node graph position node at)
      ∙ ap (λ o. option_and_then (position_of_failure graph) o) (node_of_word node (failure_at-below graph position node at))
      ∙ position_of-failure graph position node within at

  -- and is a name
  pub failure_word-is_name : (position : ℕ) → position < length (failures graph) → IsTrue (is_name (failure_word graph position))
  failure_word-is_name position within =
      let node = get_or (failures graph) position 0 in
      let at : failure_at graph position ≡ Some node = slice_get-get_or (failures graph) position 0 within in
      ap is_name (failure_word-node graph position node at) ∙ is_name-name_word graph node (failure_at-below graph position node at) valid.so_far.node_names

  -- names that are the same are of one failure mode
  pub one_failure : (one other : ℕ) → one < length (failures graph) → other < length (failures graph) → failure_word graph one ≡ failure_word graph other → one ≡ other
  one_failure one other of too same =
      same_Some one other
      (sym (failure_word-named one of) ∙ ap (λ (name : List ℕ). option_and_then (position_of_failure graph) (node_named graph name)) same ∙ failure_word-named other too)

  -- ---- words for doubts

  -- the name in the word for a doubt is one
  pub doubt_name-is_name : (node : ℕ) → IsTrue (is_monitored graph node) → IsTrue (is_name (name_word graph node))
  doubt_name-is_name node monitored = is_name-name_word graph node (monitored_within graph node monitored) valid.so_far.node_names

  -- words for doubts that are the same are of one monitor
  pub one_doubt : (one other : ℕ) → IsTrue (is_monitored graph one) → IsTrue (is_monitored graph other) → doubt_word graph one ≡ doubt_word graph other → one ≡ other
  one_doubt one other of too same =
      let names : name_word graph one ≡ name_word graph other = cc in
      same_Some one other
      (sym (node_of_word one (monitored_within graph one of)) ∙ ap (node_named graph) names ∙ node_of_word other (monitored_within graph other too))

  -- no such word is the name of a failure mode
  pub failure_not_doubt : (position node : ℕ) → position < length (failures graph) → failure_word graph position ≡ doubt_word graph node → ⊥
  failure_not_doubt position node within same = false≢true (sym (ap is_name same) ∙ failure_word-is_name position within)

-- ---- what holds of each word

-- a word for a member: a name, or a name after an exclamation mark
abbrev pub IsMemberWord : List ℕ → Type 0
IsMemberWord word = IsTrue (is_name word) ⊎ ((name : List ℕ) × (word ≡ 33 ∷ name) × IsTrue (is_name name))

-- it lacks each byte that no name may have, but for the exclamation mark
pub member_lacks : (byte : ℕ) (word : List ℕ) → is_name_byte byte ≡ false → eqb 33 byte ≡ false → IsMemberWord word → Lacks byte word
member_lacks byte word no_name no_mark (inl named) = name_lacks byte word no_name named
member_lacks byte word no_name no_mark (inr (name, is, named)) =
    rw is (All-cons (λ other. eqb other byte ≡ false) 33 name no_mark (name_lacks byte name no_name named))

-- it is short
pub member_short : (word : List ℕ) → IsMemberWord word → length word ≤ 33
member_short word (inl named) = omega (arith, name_short word named)
member_short word (inr (name, is, named)) = omega (arith, name_short name named, ap length is)

-- and is no hyphen
pub member_not_hyphen : (word : List ℕ) → IsMemberWord word → word ≡ codes "-" → ⊥
member_not_hyphen word (inl named) same = false≢true (sym (ap is_name same) ∙ named)
member_not_hyphen word (inr (name, is, named)) same = let bad : 33 ∷ name ≡ codes "-" = sym is ∙ same in omega (arith, ap (λ (bytes : List ℕ). get_or bytes 0 0) bad)

-- The words for the members of a hypothesis are such.
pub member_words_are : (graph : Tfpg) (hypothesis : Hypothesis) → IsValid graph → IsHypothesisOf graph hypothesis → All IsMemberWord (member_words graph hypothesis)
member_words_are graph hypothesis valid of =
    All-append IsMemberWord (map (failure_word graph) hypothesis.set) (map (doubt_word graph) hypothesis.doubts)
    (All-map IsMemberWord (failure_word graph) hypothesis.set
    (λ k d within. inl (failure_word-is_name graph valid (get_or hypothesis.set k d) (of.set.members k d within))))
    (All-map IsMemberWord (doubt_word graph) hypothesis.doubts
    (λ k d within.
    let node = get_or hypothesis.doubts k d in
    inr (name_word graph node, refl, doubt_name-is_name graph valid node (of.monitored k d within))))
