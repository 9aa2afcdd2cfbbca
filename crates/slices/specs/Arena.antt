-- The arena's words as fields of its grains: word 4 * g + f is field f of grain g. A field read (`size_at`, `link_at`), a
-- field stored (`put_size`, `put_link`), and that storing one changes that one alone.
use Rattle.std.specs.Prelude.{ℕ, suc, ◌+◌, ◌*◌, List}
use Rattle.choice.specs.Choice.{if_le}
use Rattle.word.specs.Word.{word_at, put_at}
use Rattle.slices.specs.Decode.{size_of, link_of, size_word, link_word, wrong_size, grains, top_of}

-- the size at grain g
unfoldable pub size_at : ℕ → List ℕ → ℕ → ℕ
size_at w a g = if_le (suc g) (grains w a) (size_of (4 * w) (grains w a) g (word_at w a (4 * g))) wrong_size

-- the link in field f of grain g, and `out` where there is no such grain
unfoldable pub link_at : ℕ → List ℕ → ℕ → ℕ → ℕ → ℕ
link_at w a f out g = if_le (suc g) (grains w a) (link_of (4 * w) (grains w a) (top_of w) (word_at w a (4 * g + f))) out

-- v stored as the size at grain g
unfoldable pub put_size : ℕ → List ℕ → ℕ → ℕ → List ℕ
put_size w a g v = put_at w a (4 * g) (size_word (4 * w) v)

-- v stored as the link in field f of grain g
unfoldable pub put_link : ℕ → List ℕ → ℕ → ℕ → ℕ → List ℕ
put_link w a f g v = put_at w a (4 * g + f) (link_word (4 * w) (top_of w) v)
