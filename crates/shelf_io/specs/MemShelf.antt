-- What contracts see of a shelf in memory.
use Rattle.std.specs.Prelude.{List, ℕ}
use Rattle.bits_core.specs.declared.names.File.{File}
use Rattle.shelf_io.specs.declared.mem_shelf.MemShelf.{MemShelf}

abbrev pub shelf_files : MemShelf → List File
shelf_files s = s.files

abbrev pub shelf_failing : MemShelf → List ℕ
shelf_failing s = s.failing.items

abbrev pub shelf_reads : MemShelf → ℕ
shelf_reads s = s.reads

abbrev pub shelf_faults : MemShelf → ℕ
shelf_faults s = s.faults
