-- A whole index that is lent, as the index that its questions are asked of.
use Rattle.rules.specs.Index.{Index}
use Rattle.known.specs.declared.WholeIndex.{WholeIndex}
use Rattle.known.specs.Asked.{parts}

abbrev pub index_of : WholeIndex → Index
index_of w = parts w.vectors.lens.now w.vectors.k w.tracks.now w.vectors.words.now w.vectors.directory.now
