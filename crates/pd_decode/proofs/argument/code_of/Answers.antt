use Rattle.std.proofs.Common.{◌<◌, ◌%◌, ◌/◌, arith}
use Rattle.pd_decode.proofs.ArgumentLemmas.{code_text-two, code_text_digits, digits_code_text}
use Rattle.pd_decode.proofs.argument.code_of.Goals as goal

pub returns-in_default-clause-none : goal.returns-in_default-clause-none
returns-in_default-clause-none c = λ code e. let two = code_text-two c.args.part.now code e in omega arith

pub returns-in_default-2-clause-none : goal.returns-in_default-2-clause-none
returns-in_default-2-clause-none c = λ code e. let two = code_text-two c.args.part.now code e in omega arith

pub returns-in_err-digit_value-clause-none : goal.returns-in_err-digit_value-clause-none
returns-in_err-digit_value-clause-none c =
    rw c.from_residual.ensures
    (λ code e. let digits = code_text_digits c.args.part.now code e in let lt : code / 16 % 16 < 16 = omega arith in
    c.in_err-digit_value.ensures.none (code / 16 % 16) lt digits.first)

pub returns-in_err-digit_value-2-clause-none : goal.returns-in_err-digit_value-2-clause-none
returns-in_err-digit_value-2-clause-none c =
    rw c.from_residual-in_err-digit_value-2.ensures
    (λ code e. let digits = code_text_digits c.args.part.now code e in let lt : code % 16 < 16 = omega arith in
    c.in_err-digit_value-2.ensures.none (code % 16) lt digits.second)

pub returns-clause-found : goal.returns-clause-found
returns-clause-found c =
    digits_code_text c.args.part.now _ _ c.in_ok-digit_value.ensures.fits c.in_ok-digit_value-2.ensures.fits
    record { two = omega arith; first = c.in_ok-digit_value.ensures.found; second = c.in_ok-digit_value-2.ensures.found }
