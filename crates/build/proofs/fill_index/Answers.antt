-- `build::fill_index` meets its contract: the words are those of the index, so the ones before each are what its directory holds.
-- Assumes nothing.
use mathlib.Core.Path.{refl, ◌∙◌}
use Rattle.build.proofs.Ones.{directory_fits, directory_is}
use Rattle.build.proofs.fill_index.Goals as goal

pub fill_directory-requires-clause-count_bound : goal.fill_directory-requires-clause-count_bound
fill_directory-requires-clause-count_bound c =
    (directory_fits _ _ _ c.fill_words.ensures c.requires.directory_len c.requires.given.accepted).1

pub returns-clause-directory_after : goal.returns-clause-directory_after
returns-clause-directory_after c =
    c.fill_directory.ensures ∙ directory_is _ _ _ c.fill_words.ensures c.requires.directory_len _ refl
