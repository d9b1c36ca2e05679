-- PAPI's codes, their numbers and names: papi.h, PAPI_strerror(3).
use Rattle.std.specs.Prelude.{ℤ, ℕ, List, codes, pos, negsuc}
use Rattle.papi_base.specs.declared.code.Code.{Code}
use Rattle.papi_base.specs.declared.code.Code.TheVariants as code

-- the number and the name of a code, papi.h
abbrev pub row_of : Code → ℤ × List ℕ
row_of code.Ok = (pos 0, codes "PAPI_OK")
row_of code.Einval = (negsuc 0, codes "PAPI_EINVAL")
row_of code.Esys = (negsuc 2, codes "PAPI_ESYS")
row_of code.Enoevnt = (negsuc 6, codes "PAPI_ENOEVNT")
row_of code.Ecnflct = (negsuc 7, codes "PAPI_ECNFLCT")
row_of code.Enotrun = (negsuc 8, codes "PAPI_ENOTRUN")
row_of code.Eisrun = (negsuc 9, codes "PAPI_EISRUN")
row_of code.Enoevst = (negsuc 10, codes "PAPI_ENOEVST")
row_of code.Enocmp = (negsuc 16, codes "PAPI_ENOCMP")
row_of code.Eattr = (negsuc 21, codes "PAPI_EATTR")
row_of code.Ecount = (negsuc 22, codes "PAPI_ECOUNT")
row_of code.Ecombo = (negsuc 23, codes "PAPI_ECOMBO")

abbrev pub number_of : Code → ℤ
number_of c = (row_of c).0

-- its name, as PAPI writes it
abbrev pub name_of : Code → List ℕ
name_of c = (row_of c).1
