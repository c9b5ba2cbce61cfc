-- A weigher as data, by which a proof distinguishes two of them.
use Rattle.std.specs.Prelude.{Bool, refl}
use Rattle.std.specs.Coded.{Coded, code_by, coded×, coded_bool}
use Rattle.uca_weights.specs.contracts.settings.Variable as variable
use Rattle.uca_weights.specs.declared.settings.Variable.{Variable}
use Rattle.uca_weights.specs.Weigher.{WeigherState}

-- a weigher as its option and its bit
abbrev pub coded_weigher : Coded WeigherState
coded_weigher = code_by (Variable × Bool) (coded× variable.the_row.coded coded_bool) (λ w. (w.weighting, w.after)) (λ p. record { weighting = p.0; after = p.1 }) (λ _. refl)
