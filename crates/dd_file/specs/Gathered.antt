-- A sink that gathers what is written into blocks.
use Rattle.std.specs.Prelude.{◌≡◌, ℕ, List, [], Option, drop}
use Rattle.std.specs.Io.KnownBytes.{append_known}
use Rattle.dd_file.specs.declared.blocks.Blocks.{Blocks}

-- the writer that the blocks go to
abbrev pub buffered_writer : {W : Type 0} → Blocks W → W
buffered_writer blocks = blocks.writer

-- the bytes that are buffered: the writer does not have them yet
abbrev pub buffered_output : {W : Type 0} → Blocks W → List ℕ
buffered_output blocks = drop blocks.written blocks.block.items

-- no byte is buffered: the writer has all of them
abbrev pub NothingBuffered : {W : Type 0} → Blocks W → Type 0
NothingBuffered blocks = buffered_output blocks ≡ []

-- all bytes that were written to the blocks: those of the writer, if they are known, and then the buffered ones
abbrev pub gathered_bytes : {W : Type 0} → (W → Option (List ℕ)) → Blocks W → Option (List ℕ)
gathered_bytes contents blocks = append_known (contents blocks.writer) (buffered_output blocks)
