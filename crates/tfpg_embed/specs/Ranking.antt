-- The numbers of a ranked hypothesis.
use Rattle.std.specs.Prelude.{◌≡◌, ◌≢◌, ◌↔◌, ℕ, ◌<◌, ◌/◌, ◌%◌, List, [], length, map, Contains, nat_lt, ◌&&◌, if◌then◌else◌, Bool, Option, None, Some, IsSomeAnd, unwrap_or, slice_index}
use Rattle.std.specs.Int.{bit_at}
use Rattle.std.specs.List.{range_with_len}
use Rattle.tfpg_base.specs.Trace.{time_of}
use Rattle.tfpg_base.specs.declared.activation.Activation.{Activation}
use Rattle.tfpg_base.specs.declared.limits.TheConstants.{MAX_MEMBERS, MAX_NODE_NUMBERS, NEVER}
use Rattle.tfpg_evidence.specs.declared.finding.Finding.{Finding}
use Rattle.tfpg_evidence.specs.declared.finding.Status.{Status}
use Rattle.tfpg_evidence.specs.declared.finding.Status.TheVariants.{Ranked, Covered, Rejected, Open}
use Rattle.tfpg_diagnose.specs.texts.Latest.{ranked_at}
use Rattle.tfpg_diagnose.specs.texts.Sessions.{SessionState}
use Rattle.tfpg_embed.specs.declared.answer.TfpgAnswer.{TfpgAnswer}
use Rattle.tfpg_embed.specs.declared.ranking.TfpgRanked.{TfpgRanked}
use Rattle.tfpg_embed.specs.declared.session.open_session.OpenSession.{OpenSession}
use Rattle.tfpg_embed.specs.declared.status.TheConstants.{DONE, ROOM_TOO_SMALL, NO_SUCH}
use Rattle.tfpg_embed.specs.Answers.{answer_with, counted}
use Rattle.tfpg_embed.specs.Rooms.{room_after}

-- Bit `index` of a number is set exactly if the index is below 64 and a member.
abbrev pub IsMask : ℕ → (ℕ → Type 0) → Type 0
IsMask bits IsMember = (index : ℕ) → (bit_at bits index ≡ 1) ↔ ((index < MAX_MEMBERS) × IsMember index)

-- Bit `node % 64` of the number at `node / 64` is set.
abbrev pub HasNodeBit : List ℕ → ℕ → Type 0
HasNodeBit words node = bit_at (slice_index words (node / 64)) (node % 64) ≡ 1

-- In eight numbers the bit of a node is set exactly if the node is a member, for each node that a graph can have.
pub record AreMasks (words nodes : List ℕ) : Type 0 where
  pub count : length words ≡ 8
  pub each : (node : ℕ) → node < MAX_NODE_NUMBERS → HasNodeBit words node ↔ Contains nodes node

-- These are the numbers of a finding that ranks: the failure modes and the monitors of its hypothesis as bits, what its status says, its
-- number, and how many nodes are active in its trace.
pub record HasNumbersOf (finding : Finding) (numbers : TfpgRanked) : Type 0 where
  pub failures : IsMask numbers.failures (Contains finding.set)
  pub doubts : AreMasks numbers.doubts finding.doubts
  pub hypothesis : numbers.hypothesis ≡ finding.number
  pub trace : List Activation
  pub status : finding.status ≡ Ranked trace numbers.cost numbers.alarmed numbers.monitored
  pub active : numbers.active ≡ length trace

-- when a node became active in a trace, or never
abbrev pub time_or_never : List Activation → ℕ → ℕ
time_or_never trace node = unwrap_or (time_of trace node) NEVER

-- that of each of so many nodes
abbrev pub times_in : List Activation → ℕ → List ℕ
times_in trace nodes = map (time_or_never trace) (range_with_len 0 nodes)

-- the same for the trace of a status that ranks
abbrev pub times_of_status : ℕ → Status → List ℕ
times_of_status nodes (Ranked trace cost alarmed monitored) = times_in trace nodes
times_of_status nodes (Covered by) = []
times_of_status nodes Rejected = []
times_of_status nodes Open = []

-- how many nodes the graph of a session has
abbrev pub nodes_in : SessionState → ℕ
nodes_in session = length session.engine.graph.nodes

-- There is room for a time, but not for those of all nodes.
abbrev pub is_short : ℕ → ℕ → Bool
is_short nodes room = nat_lt 0 room && nat_lt room nodes

-- The answer about what was found at a rank, in a graph of so many nodes, with room for so many times: there is nothing; or the number of
-- nodes, and whether the room is too small.
abbrev pub answer_of_found : ℕ → ℕ → Option Finding → TfpgAnswer
answer_of_found nodes room None = answer_with NO_SUCH
answer_of_found nodes room (Some finding) = counted (if is_short nodes room then ROOM_TOO_SMALL else DONE) nodes

-- the times after that: those of the trace in front, if there is room for all of them, and else as they were
abbrev pub times_of_found : ℕ → Option Finding → List ℕ → List ℕ
times_of_found nodes None room = room
times_of_found nodes (Some finding) room = room_after (times_of_status nodes finding.status) room

-- the same for the hypothesis that the last round of a session ranks at this rank
abbrev pub answer_about : ℕ → ℕ → SessionState → TfpgAnswer
answer_about rank room session = answer_of_found (nodes_in session) room (ranked_at session.latest.round rank)

abbrev pub times_after : ℕ → SessionState → List ℕ → List ℕ
times_after rank session room = times_of_found (nodes_in session) (ranked_at session.latest.round rank) room

-- What a handle holds is a session whose last round ranks a hypothesis at this rank that has these numbers.
abbrev pub HoldsRanked : Option OpenSession → ℕ → TfpgRanked → Type 0
HoldsRanked held rank numbers =
    IsSomeAnd held (λ one. IsSomeAnd (ranked_at one.session.latest.round rank) (λ finding. HasNumbersOf finding numbers))

-- The numbers after that: those of the hypothesis if the answer is that it is done, and else as they were.
pub record LeavesRanked (held : Option OpenSession) (rank : ℕ) (old new : TfpgRanked) (answer : TfpgAnswer) : Type 0 where
  pub done : answer.status ≡ DONE → HoldsRanked held rank new
  pub kept : answer.status ≢ DONE → new ≡ old
