mod Goes
mod Behind
mod Back
