-- The words that begin a line of numbers.
use Rattle.std.specs.Prelude.{List, ℕ}
use Rattle.text.specs.Text.{count_word, sheet_word, loose_word, sign_word, omega_word, refused_word, order_word, layers_word, layer_word}
use Rattle.line.specs.declared.Word.{Word}
use Rattle.line.specs.declared.Word.TheVariants.{Count, Sheet, Loose, Sign, Omega, Refused, Order, Layers, Layer}

abbrev pub word_of : Word → List ℕ
word_of Count = count_word
word_of Sheet = sheet_word
word_of Loose = loose_word
word_of Sign = sign_word
word_of Omega = omega_word
word_of Refused = refused_word
word_of Order = order_word
word_of Layers = layers_word
word_of Layer = layer_word
