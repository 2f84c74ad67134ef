-- The words of a line of a report are those that it is written with.
use Rattle.std.proofs.Common.{◌≡◌, ℕ, ◌+◌, ◌<◌, ◌≤◌, eqb, Bool, true, false, cond, List, [], ◌∷◌, ◌++◌, length, Option, Some, None, unwrap_or, codes, refl, sym, subst, arith}
use Rattle.std.specs.Prelude.{decimal, slice_get}
use Rattle.std.specs.List.{AllByRecursion}
use Rattle.std.specs.Option.{option_map}
use Rattle.std.proofs.lemmas.List.Elements.{All-append, All-nil}
use Rattle.tfpg_base.specs.declared.limits.TheConstants.{MAX_WORDS}
use Rattle.tfpg_base.specs.Words.{is_name, words_of}
use Rattle.tfpg_base.proofs.lemmas.Separators.{name_lacks}
use Rattle.tfpg_base.proofs.lemmas.lists.Lacking.{Lacks, lacks_checked, slice_split-join}
use Rattle.tfpg_base.proofs.lemmas.lists.Elements.{All-at}
use Rattle.tfpg_graph.specs.Graph.{Node, Tfpg, name_word}
use Rattle.tfpg_graph.specs.Valid.{IsValid}
use Rattle.tfpg_log.specs.declared.refusal.Refusal.TheVariants.{BadLine, BadNumber, TimeTooLarge, TimeBack, UnknownName, NotMonitored, NotAMode, LogFull, ModesFull}
use Rattle.tfpg_evidence.specs.declared.clause_name.ClauseName.{ClauseName}
use Rattle.tfpg_evidence.specs.declared.clause_name.ClauseName.TheVariants.{OrMay, AndMay, OrMust, AndMust}
use Rattle.tfpg_evidence.specs.declared.reason.Reason.{Reason}
use Rattle.tfpg_evidence.specs.declared.reason.Reason.TheVariants.{Zero, Top, Unreached, From, Upto, Quiet, Pick}
use Rattle.tfpg_log.specs.declared.refused_line.RefusedLine.{RefusedLine}
use Rattle.tfpg_log.specs.declared.refused_line.RefusedLine.TheVariants.{TooLong, Offer}
use Rattle.tfpg_report.specs.declared.report_line.ReportLine.{ReportLine}
use Rattle.tfpg_report.specs.declared.report_line.ReportLine.TheVariants.{Head, OldHead, Refused, Round, Hyp, Split, Cycle, Why, Again, Ranked, At, Open, Rejected, Counts, Panel}
use Rattle.tfpg_report.specs.LineWords.{cause_words, clause_words, edge_words, reason_words, robustness_word}
use Rattle.tfpg_report.specs.ReportLines.{IsLineWithin, IsNameWithin, line_words, written_line}
use Rattle.tfpg_report.proofs.lemmas.CleanLines.{number_lacks}
use Rattle.tfpg_report.proofs.lemmas.SetWords.{set_word-no_space}
use Rattle.tfpg_report.proofs.lemmas.reading.FirstWords.{edge_at}

-- Words that a line can have: there is one, there are not more than this, and none has a space.
record AreWords (limit : ℕ) (words : List (List ℕ)) : Type 0 where
  some : 0 < length words
  few : length words ≤ limit
  clean : AllByRecursion (Lacks 32) words

-- one word more
onto : (limit : ℕ) (word : List ℕ) (words : List (List ℕ)) → Lacks 32 word → AreWords limit words → AreWords (limit + 1) (word ∷ words)
onto limit word words lacks are = record { some = omega arith; few = omega (arith, are.few); clean = (lacks, are.clean) }

-- a number has no space
number : (n : ℕ) → Lacks 32 (decimal n)
number n = number_lacks 32 n (omega arith)

cause_clean : (cause : RefusedLine) → AreWords 2 (cause_words cause)
cause_clean TooLong = record { some = omega arith; few = omega arith; clean = (lacks_checked 32 (codes "TooLong") refl, tt) }
cause_clean (Offer BadLine) = record { some = omega arith; few = omega arith; clean = (lacks_checked 32 (codes "BadLine") refl, tt) }
cause_clean (Offer BadNumber) = record { some = omega arith; few = omega arith; clean = (lacks_checked 32 (codes "BadNumber") refl, tt) }
cause_clean (Offer TimeTooLarge) = record { some = omega arith; few = omega arith; clean = (lacks_checked 32 (codes "TimeTooLarge") refl, tt) }
cause_clean (Offer (TimeBack last)) =
    record { some = omega arith; few = omega arith; clean = (lacks_checked 32 (codes "TimeBack") refl, (number last, tt)) }
cause_clean (Offer UnknownName) = record { some = omega arith; few = omega arith; clean = (lacks_checked 32 (codes "UnknownName") refl, tt) }
cause_clean (Offer NotMonitored) = record { some = omega arith; few = omega arith; clean = (lacks_checked 32 (codes "NotMonitored") refl, tt) }
cause_clean (Offer NotAMode) = record { some = omega arith; few = omega arith; clean = (lacks_checked 32 (codes "NotAMode") refl, tt) }
cause_clean (Offer LogFull) = record { some = omega arith; few = omega arith; clean = (lacks_checked 32 (codes "LogFull") refl, tt) }
cause_clean (Offer ModesFull) = record { some = omega arith; few = omega arith; clean = (lacks_checked 32 (codes "ModesFull") refl, tt) }

-- two counts with a slash between
robust : (alarmed monitored : ℕ) → Lacks 32 (robustness_word alarmed monitored)
robust alarmed monitored =
    All-append (λ byte. eqb byte 32 ≡ false) (decimal alarmed ++ codes "/") (decimal monitored)
    (All-append (λ byte. eqb byte 32 ≡ false) (decimal alarmed) (codes "/") (number alarmed) (lacks_checked 32 (codes "/") refl)) (number monitored)

-- whether memory ran out
loss : (memory : Bool) → Lacks 32 (cond memory (codes "memory") (codes "lost"))
loss true = lacks_checked 32 (codes "memory") refl
loss false = lacks_checked 32 (codes "lost") refl

module _ (graph : Tfpg) (valid : IsValid graph) where
  -- a node's name
  name : (node : ℕ) → Lacks 32 (name_word graph node)
  name node = by (slice_get graph.nodes node) refl
    where
      by : (found : Option Node) → slice_get graph.nodes node ≡ found → Lacks 32 (unwrap_or (option_map (λ (n : Node). n.name) found) [])
      by None at = All-nil (λ byte. eqb byte 32 ≡ false)
      by (Some n) at = name_lacks 32 n.name refl (All-at (λ (n : Node). is_name n.name ≡ true) graph.nodes node n valid.so_far.node_names at)

  -- the words for a clause of a node
  node_clause : (kind : List ℕ) (node span horizon : ℕ) → Lacks 32 kind → AreWords 5 (kind ∷ name_word graph node ∷ decimal span ∷ decimal horizon ∷ [])
  node_clause kind node span horizon lacks =
      record { some = omega arith; few = omega arith; clean = (lacks, (name node, (number span, (number horizon, tt)))) }

  -- and for one of an edge
  edge_clause : (kind : List ℕ) (edge span horizon : ℕ) → edge < length graph.edges → Lacks 32 kind → AreWords 5 (kind ∷ edge_words graph edge ++ decimal span ∷ decimal horizon ∷ [])
  edge_clause kind edge span horizon within lacks =
      let at = edge_at graph valid edge within in
      subst (λ (ws : List (List ℕ)). AreWords 5 (kind ∷ ws ++ decimal span ∷ decimal horizon ∷ [])) (sym at.words_are)
      (record { some = omega arith; few = omega arith; clean = (lacks, (name at.source, (name at.target, (number span, (number horizon, tt))))) })

  clause_clean : (of : ClauseName) → IsNameWithin graph of → AreWords 5 (clause_words graph of)
  clause_clean (OrMay node span horizon) within = node_clause (codes "ormay") node span horizon (lacks_checked 32 (codes "ormay") refl)
  clause_clean (AndMay edge span horizon) within = edge_clause (codes "andmay") edge span horizon within.0 (lacks_checked 32 (codes "andmay") refl)
  clause_clean (OrMust edge span horizon) within = edge_clause (codes "ormust") edge span horizon within.0 (lacks_checked 32 (codes "ormust") refl)
  clause_clean (AndMust node span horizon) within = node_clause (codes "andmust") node span horizon (lacks_checked 32 (codes "andmust") refl)

  reason_clean : (why : Reason) → AreWords 3 (reason_words graph why)
  reason_clean (Zero node) = record { some = omega arith; few = omega arith; clean = (lacks_checked 32 (codes "zero") refl, (name node, tt)) }
  reason_clean (Top node) = record { some = omega arith; few = omega arith; clean = (lacks_checked 32 (codes "top") refl, (name node, tt)) }
  reason_clean (Unreached node horizon) =
      record { some = omega arith; few = omega arith; clean = (lacks_checked 32 (codes "unreached") refl, (name node, (number horizon, tt))) }
  reason_clean (From event) = record { some = omega arith; few = omega arith; clean = (lacks_checked 32 (codes "from") refl, (number event, tt)) }
  reason_clean (Upto event) = record { some = omega arith; few = omega arith; clean = (lacks_checked 32 (codes "upto") refl, (number event, tt)) }
  reason_clean (Quiet event node) =
      record { some = omega arith; few = omega arith; clean = (lacks_checked 32 (codes "quiet") refl, (number event, (name node, tt))) }
  reason_clean (Pick split constraint) =
      record { some = omega arith; few = omega arith; clean = (lacks_checked 32 (codes "pick") refl, (number split, (number constraint, tt))) }

  line_clean : (line : ReportLine) → IsLineWithin graph line → AreWords MAX_WORDS (line_words graph line)
  line_clean (Head terms) within = record {
    some = omega arith;
    few = omega arith;
    clean = (
      lacks_checked 32 (codes "report") refl,
      (
        lacks_checked 32 (codes "2") refl,
        (
          lacks_checked 32 (codes "k") refl,
          (
            number terms.k,
            (lacks_checked 32 (codes "doubt") refl, (number terms.doubt, (lacks_checked 32 (codes "budget") refl, (number terms.budget, tt)))),
          ),
        ),
      ),
    );
  }
  line_clean (OldHead k budget) within = record {
    some = omega arith;
    few = omega arith;
    clean = (
      lacks_checked 32 (codes "report") refl,
      (lacks_checked 32 (codes "1") refl, (lacks_checked 32 (codes "k") refl, (number k, (lacks_checked 32 (codes "budget") refl, (number budget, tt))))),
    );
  }
  line_clean (Refused line cause) within =
      let are = onto 3 (codes "refused") (decimal line ∷ cause_words cause) (lacks_checked 32 (codes "refused") refl) (onto 2 (decimal line) (cause_words cause) (number line) (cause_clean cause)) in
      record { some = are.some; few = omega (arith, are.few); clean = are.clean }
  line_clean (Round n line now) within =
      record { some = omega arith; few = omega arith; clean = (lacks_checked 32 (codes "round") refl, (number n, (number line, (number now, tt)))) }
  line_clean (Hyp n) within = record { some = omega arith; few = omega arith; clean = (lacks_checked 32 (codes "hyp") refl, (number n, tt)) }
  line_clean (Split of) within =
      let are = onto 5 (codes "split") (clause_words graph of) (lacks_checked 32 (codes "split") refl) (clause_clean of within) in
      record { some = are.some; few = omega (arith, are.few); clean = are.clean }
  line_clean (Cycle count) within = record { some = omega arith; few = omega arith; clean = (lacks_checked 32 (codes "cycle") refl, (number count, tt)) }
  line_clean (Why why) within =
      let are = onto 3 (codes "why") (reason_words graph why) (lacks_checked 32 (codes "why") refl) (reason_clean why) in
      record { some = are.some; few = omega (arith, are.few); clean = are.clean }
  line_clean Again within = record { some = omega arith; few = omega arith; clean = (lacks_checked 32 (codes "again") refl, tt) }
  line_clean (Ranked n cost alarmed monitored hypothesis) within = record {
    some = omega arith;
    few = omega arith;
    clean = (
      lacks_checked 32 (codes "ranked") refl,
      (
        number n,
        (
          lacks_checked 32 (codes "cost") refl,
          (
            number cost,
            (
              lacks_checked 32 (codes "robust") refl,
              (robust alarmed monitored, (lacks_checked 32 (codes "set") refl, (set_word-no_space graph valid hypothesis within.4, tt))),
            ),
          ),
        ),
      ),
    );
  }
  line_clean (At activation) within =
      record { some = omega arith; few = omega arith; clean = (lacks_checked 32 (codes "at") refl, (name activation.node, (number activation.time, tt))) }
  line_clean (Open n hypothesis) within = record {
    some = omega arith;
    few = omega arith;
    clean = (
      lacks_checked 32 (codes "open") refl,
      (number n, (lacks_checked 32 (codes "set") refl, (set_word-no_space graph valid hypothesis within.1, tt))),
    );
  }
  line_clean (Rejected n hypothesis) within = record {
    some = omega arith;
    few = omega arith;
    clean = (
      lacks_checked 32 (codes "rejected") refl,
      (number n, (lacks_checked 32 (codes "set") refl, (set_word-no_space graph valid hypothesis within.1, tt))),
    );
  }
  line_clean (Counts counts) within = record {
    some = omega arith;
    few = omega arith;
    clean = (
      lacks_checked 32 (codes "counts") refl,
      (
        lacks_checked 32 (codes "ranked") refl,
        (
          number counts.ranked,
          (
            lacks_checked 32 (codes "covered") refl,
            (
              number counts.covered,
              (
                lacks_checked 32 (codes "rejected") refl,
                (number counts.rejected, (lacks_checked 32 (codes "open") refl, (number counts.unsettled, tt))),
              ),
            ),
          ),
        ),
      ),
    );
  }
  line_clean (Panel panel memory) within =
      record { some = omega arith; few = omega arith; clean = (lacks_checked 32 (codes "panel") refl, (number panel, (loss memory, tt))) }

  -- The words of a written line are those that it is written with.
  pub words_of-line : (line : ReportLine) → IsLineWithin graph line → words_of (written_line graph line) ≡ line_words graph line
  words_of-line line within = let are = line_clean line within in slice_split-join 32 (line_words graph line) are.some are.clean

  -- There are no more than a line may have.
  pub line-few_words : (line : ReportLine) → IsLineWithin graph line → length (line_words graph line) ≤ MAX_WORDS
  line-few_words line within = (line_clean line within).few
