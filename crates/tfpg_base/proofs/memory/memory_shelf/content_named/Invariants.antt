use Rattle.std.proofs.Common.{◌≡◌, map, drop}
use Rattle.tfpg_base.specs.Outside.{file_of}
use Rattle.tfpg_base.proofs.memory.memory_shelf.content_named.Given as goal

abbrev pub invariant-loop-file : goal.invariant-loop-file
invariant-loop-file l =
    file_of (map (λ file. (file.0.now, file.1.now)) (drop l.file-index l.files)) l.name ≡ file_of (map (λ file. (file.0.now, file.1.now)) l.files) l.name
